use Rattle.std.proofs.Common.{◌∙◌, refl}
use Rattle.utd_parser.specs.Frames.{load_of, stack_of}
use Rattle.utd_parser.proofs.Stacks.{reach-over}
use Rattle.utd_parser.proofs.stack.advance.Goals as goal

pub returns-in-None : goal.returns-in-None
returns-in-None c = c.frame.invariant ∙ c.in-Passed.ensures (stack_of c.frame.stack.frames.items) (load_of c.frame.load) ∙ reach-over _ _ _ _ _ (c.in-None.ensures.none refl)
