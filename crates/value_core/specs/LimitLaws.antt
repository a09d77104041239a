-- The numbers of the limits: these and no others, whatever the constants of the code say. Each is proved by its term.
use Rattle.std.specs.Prelude.{◌≡◌, refl}
use Rattle.value_core.specs.Limits.{most_name_bytes, most_text_bytes, most_attributes, most_listed, most_rows, most_rows_in_all, most_relvars, most_ordinal_types, most_ordinal_values, most_constraints, most_nodes, most_levels, most_operators, most_rules, most_statement_bytes, most_script_bytes}

pub record Limits : Type 0 where
  pub name_bytes : most_name_bytes ≡ 64
  pub text_bytes : most_text_bytes ≡ 255
  pub attributes : most_attributes ≡ 16
  pub listed : most_listed ≡ 4
  pub rows : most_rows ≡ 100000
  pub rows_in_all : most_rows_in_all ≡ 200000
  pub relvars : most_relvars ≡ 64
  pub ordinal_types : most_ordinal_types ≡ 16
  pub ordinal_values : most_ordinal_values ≡ 1000
  pub constraints : most_constraints ≡ 32
  pub nodes : most_nodes ≡ 1000
  pub levels : most_levels ≡ 64
  pub operators : most_operators ≡ 256
  pub rules : most_rules ≡ 32
  pub statement_bytes : most_statement_bytes ≡ 1048576
  pub script_bytes : most_script_bytes ≡ 16777216

pub limits : Limits
limits = record {
  name_bytes = refl;
  text_bytes = refl;
  attributes = refl;
  listed = refl;
  rows = refl;
  rows_in_all = refl;
  relvars = refl;
  ordinal_types = refl;
  ordinal_values = refl;
  constraints = refl;
  nodes = refl;
  levels = refl;
  operators = refl;
  rules = refl;
  statement_bytes = refl;
  script_bytes = refl;
}
