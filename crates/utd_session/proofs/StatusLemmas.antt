-- A number is that of one status.
use Rattle.std.proofs.Common.{◌≡◌, ℕ, zero, suc, ◌≤◌, refl, arith}
use Rattle.utd_session.specs.declared.status.Status.{Status}
use Rattle.utd_session.specs.declared.status.Status.TheVariants.{AllAccepted, SomeRefused, BadUsage, ReadFailed, WriteFailed, NoMemory, TooLong, CannotDump}
use Rattle.utd_session.specs.Status.{number_of, IsStatus}

bound : (s : Status) → number_of s ≤ 7
bound AllAccepted = omega arith
bound SomeRefused = omega arith
bound BadUsage = omega arith
bound ReadFailed = omega arith
bound WriteFailed = omega arith
bound NoMemory = omega arith
bound TooLong = omega arith
bound CannotDump = omega arith

pub most : (answered : ℕ) → IsStatus answered → answered ≤ 7
most answered (s, e) = omega (arith, e, bound s)

status_at : ℕ → Status
status_at zero = AllAccepted
status_at (suc zero) = SomeRefused
status_at (suc (suc zero)) = BadUsage
status_at (suc (suc (suc zero))) = ReadFailed
status_at (suc (suc (suc (suc zero)))) = WriteFailed
status_at (suc (suc (suc (suc (suc zero))))) = NoMemory
status_at (suc (suc (suc (suc (suc (suc zero)))))) = TooLong
status_at (suc (suc (suc (suc (suc (suc (suc n))))))) = CannotDump

back : (s : Status) → status_at (number_of s) ≡ s
unfolding status_at
back AllAccepted = refl
back SomeRefused = refl
back BadUsage = refl
back ReadFailed = refl
back WriteFailed = refl
back NoMemory = refl
back TooLong = refl
back CannotDump = refl
