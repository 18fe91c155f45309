-- From the first rule that stands, or from none, to the answer of a step that no dependence forbids; and what a scene says of numbers.
use Rattle.std.proofs.Common.{◌≡◌, ℕ, ◌+◌, ◌^◌, ◌<◌, false, List, [], ◌∷◌, All, Ok, Err, refl, sym, subst, arith}
use Rattle.std.proofs.lemmas.List.Elements.{All-nil, All-cons}
use Rattle.ped_tree.specs.Tree.{ProgramTree}
use Rattle.ped_tree.specs.Numbering.{statements_count}
use Rattle.ped_weaves.specs.ped_graph.specs.ped_symbols.specs.NameRefusals.{IsValid}
use Rattle.ped_weaves.specs.ped_graph.specs.ped_symbols.proofs.RightUseLaws.Whole.{right_program}
use Rattle.ped_edges.specs.Edges.{Edge}
use Rattle.ped_steps.specs.declared.rules.Rule.{Rule}
use Rattle.ped_steps.specs.declared.causes.Refused.{Refused}
use Rattle.ped_steps.specs.declared.causes.Refused.TheVariants as variant
use Rattle.ped_steps.specs.declared.changes.Change.{Change}
use Rattle.ped_steps.specs.Causes.{Rules, NoRule, IsFirstRule, none_forbids}
use Rattle.ped_steps.specs.Changes.{IsChange, IsAnswer}

none_of : (edges : List Edge) → All (λ (e : Edge). none_forbids e ≡ false) edges
none_of [] = All-nil (λ (e : Edge). none_forbids e ≡ false)
none_of (e ∷ edges) = All-cons (λ (f : Edge). none_forbids f ≡ false) e edges refl (none_of edges)

module _ (t : ProgramTree) (stands : Rules) (new : ProgramTree) (keep : List (ℕ × ℕ)) where
  -- a step that is refused by its first rule
  pub refused_by : (r : Rule) (n : ℕ) (refused : Refused) → refused ≡ variant.Rule r n → IsFirstRule stands r n → IsAnswer t stands none_forbids new keep (Err refused)
  refused_by r n refused is first = subst (λ (e : Refused). IsAnswer t stands none_forbids new keep (Err e)) (sym is) (first, tt)

  -- a step that is accepted
  pub accepted : (change : Change) → NoRule stands → IsChange new keep change → IsAnswer t stands none_forbids new keep (Ok change)
  accepted change none made = ((none, λ edges are. none_of edges), made)

-- the numbers of a valid program's statements, and one more, are small
pub few_numbers : (t : ProgramTree) → IsValid t → statements_count t.body + 1 < 2 ^ 32
few_numbers t v = let few = (right_program t v).few_statements in omega (arith, few)
