-- Elements of a scalar, as the code has them (this project).
use Rattle.std.specs.Prelude.{◌≡◌, ℕ, Some}
use Rattle.ped_tree.specs.Tree.{Head, ProgramTree}
use Rattle.ped_rules.specs.ped_symbols.specs.Kinds.{table_of}
use Rattle.ped_scalar.specs.declared.elements.Elements.{Elements}
use Rattle.ped_rules.specs.CodeSpans.{IsKnown}
use Rattle.ped_rules.specs.Spans.{span_of}
use Rattle.ped_scalar.specs.Expanding.{array_name, SaysLive}

-- these are the elements with which `expand` makes its new program: of a fresh array, over the values of the DO's variable (this project)
pub record AreElements (t : ProgramTree) (s : ℕ) (h : Head) (e : Elements) : Type 0 where
  pub fresh : array_name t ≡ Some e.array
  pub known : IsKnown (span_of (table_of t).constants h) (Some e.span)
  pub says : SaysLive t s e.scalar e.live
