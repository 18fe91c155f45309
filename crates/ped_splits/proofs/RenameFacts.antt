-- What is shown of the second of two DO loops that gets the variable of the first.
use Rattle.std.proofs.Common.{◌≡◌, ℕ, List, [], Bool, true, false, None, refl, sym, ap, ◌∙◌, inl, inr}
use Rattle.std.specs.Prelude.{◌||◌}
use Rattle.ped_base.proofs.NameEquality.{same_is, same_itself}
use Rattle.ped_base.specs.Lists.{is_among, is_same_text}
use Rattle.ped_tree.specs.Constants.NamedConstants.{value_named}
use Rattle.ped_tree.specs.NamesIn.{all_loop_variables, expr_names, loop_variables, stmts_names}
use Rattle.ped_tree.specs.Nests.{Loop, indices_of}
use Rattle.ped_tree.specs.Tree.{Do, ExprTree, ProgramTree}
use Rattle.ped_rules.proofs.NestLaws.InnerPlaces.{loops_of_program}
use Rattle.ped_rules.proofs.NestLaws.IndicesApart.{variable_apart}
use Rattle.ped_rules.specs.ped_loop_runs.proofs.LoopLaws.OneForOneNames.{variables_unnamed}
use Rattle.ped_rules.specs.ped_symbols.proofs.RightUseLaws.Whole.{others_unvalued}
use Rattle.ped_rules.specs.ped_symbols.specs.NameRefusals.{IsValid}
use Rattle.ped_rules.specs.ped_flow.specs.PlainBounds.{nest_round}
use Rattle.ped_rules.specs.ped_flow.specs.Questions.{IsContained}
use Rattle.ped_rules.specs.ped_eval.specs.Outcomes.{setting_of}
use Rattle.ped_splits.proofs.CoverFacts.{MayFuse, may_fuse}
use Rattle.ped_splits.proofs.FuseFacts.{IsFusable}
use Rattle.ped_splits.proofs.RenameGaps.{next_loop, same_nest}
use Rattle.ped_splits.proofs.RenameShown.{tidy_unwritten}
use Rattle.ped_splits.proofs.RenameUnread.{plain_unnamed}
use Rattle.ped_splits.specs.Fusing.{Match}
use Rattle.ped_splits.specs.Neighbours.{Neighbour, next_number}
use Rattle.ped_splits.specs.OneVariable.{IsUnwritten}

-- both DO loops are contained, the second isn't parallel and has no PRIVATE names, its bounds don't name its variable, and its body doesn't name that of the first, which is another; and no PARALLEL DO writes the second variable, where its iterations have copies of it
pub record IsRenaming (t : ProgramTree) (s : ℕ) (x : Neighbour t s) : Type 0 where
  pub valid : IsValid t
  pub unwritten : IsUnwritten t x.next.variable
  pub serial : x.next.parallel ≡ false
  pub private : x.next.private ≡ []
  pub contained : IsContained t (next_number x)
  pub own_contained : IsContained t s
  pub differ : is_same_text x.own.variable x.next.variable ≡ false
  pub absent : is_among x.own.variable (stmts_names x.next_body) ≡ false
  pub first : is_among x.next.variable (expr_names x.next.first) ≡ false
  pub last : is_among x.next.variable (expr_names x.next.last) ≡ false

module _ (t : ProgramTree) (s : ℕ) (m : Match t s) (f : MayFuse t s m) (unwritten : IsUnwritten t m.neighbour.next.variable) (own_contained : IsContained t s) (next_contained : IsContained t (next_number m.neighbour)) (differ : m.neighbour.own.variable ≡ m.neighbour.next.variable → ⊥)
    (absent : is_among m.neighbour.own.variable (stmts_names m.neighbour.next_body) ≡ false) where
  abbrev x : Neighbour t s
  x = m.neighbour

  abbrev J : List ℕ
  J = m.neighbour.next.variable

  own_among : is_among J (loop_variables (Do x.next x.next_body)) ≡ true
  own_among = ap (λ (b : Bool). b || is_among J (all_loop_variables x.next_body)) (same_itself J)

  none : value_named (setting_of t).constants J ≡ None
  none = others_unvalued t J (variables_unnamed t f.valid (next_number x) (next_loop x) J own_among)

  outside : is_among J (indices_of (nest_round t s)) ≡ false
  outside = ap (λ (ls : List Loop). is_among J (indices_of ls)) (sym (same_nest x)) ∙ variable_apart t f.valid (next_number x) (next_loop x)

  index : is_among J (all_loop_variables t.body) ≡ true
  index = loops_of_program t (next_number x) (next_loop x) J own_among

  apart : is_same_text x.own.variable J ≡ false
  apart = go (is_same_text x.own.variable J) refl
    where
      go : (b : Bool) → is_same_text x.own.variable J ≡ b → b ≡ false
      go true e = absurd (differ (same_is x.own.variable J e))
      go false e = refl

  pub renaming_may : IsRenaming t s m.neighbour
  renaming_may = record {
    valid = f.valid;
    unwritten = unwritten;
    serial = f.next_serial;
    private = f.next_unprivate;
    contained = next_contained;
    own_contained = own_contained;
    differ = apart;
    absent = absent;
    first = ap (λ (e : ExprTree). is_among J (expr_names e)) (sym m.alike.first) ∙ plain_unnamed t s (setting_of t).constants J none outside index x.own.first (f.plain x.own.first (inl refl)).built;
    last = ap (λ (e : ExprTree). is_among J (expr_names e)) (sym m.alike.last) ∙ plain_unnamed t s (setting_of t).constants J none outside index x.own.last (f.plain x.own.last (inr refl)).built;
  }

pub renaming : (t : ProgramTree) (s : ℕ) (m : Match t s) → IsFusable t s m → (m.neighbour.own.variable ≡ m.neighbour.next.variable → ⊥) → is_among m.neighbour.own.variable (stmts_names m.neighbour.next_body) ≡ false → IsRenaming t s m.neighbour
renaming t s m f differ absent = renaming_may t s m (may_fuse t s m f) (tidy_unwritten t f.tidy m.neighbour.next.variable) f.own_contained f.next_contained differ absent
