-- Whether the program in which a list is lowered isn't valid, as the code finds it before the DO has the list.
use Rattle.std.proofs.Common.{◌≡◌, ◌↔◌, ℕ, suc, zero, ◌-◌, ◌≤◌, List, Bool, true, false, not, None, IsTrue, refl, sym, ap, ◌∙◌, arith}
use Rattle.std.specs.List.{range_with_len}
use Rattle.std.proofs.lemmas.Bool.{both_ways}
use Rattle.ped_tree.specs.Tree.{Head, StmtTrees, ProgramTree}
use Rattle.ped_tree.specs.Numbering.{statement_with, statements_count}
use Rattle.ped_refs.proofs.SizeLaws.Small.{small_program}
use Rattle.ped_rules.specs.ped_symbols.specs.NameRefusals.{IsValid}
use Rattle.ped_rules.specs.ped_flow.specs.Questions.{IsLoop, LoopOf}
use Rattle.ped_rules.specs.ped_flow.proofs.Answering.{loop_fits}
use Rattle.ped_reduce.specs.declared.lowering.Lowered.{Lowered as CodeLowered}
use Rattle.ped_reduce.specs.Lists.{has_list}
use Rattle.ped_reduce.specs.Lowering.{Lowered, not_lowered, lowered_at}
use Rattle.ped_reduce.specs.Reducing.{Lowers, is_in_live, IsUnlowerable}
use Rattle.ped_reduce.specs.CodeLowered.{lowered_view, IsLowerable}
use Rattle.ped_reduce.proofs.LoweringLaws.{one_behind}

-- statements have numbers from 1 on
pub from_one : (t : ProgramTree) (s : ℕ) → LoopOf t s → 1 ≤ s
from_one t zero loop = let none : statement_with zero t ≡ None = refl in let wrong = sym none ∙ loop.is in absurd cc
from_one t (suc n) loop = omega arith

module _ (t : ProgramTree) (s : ℕ) (h : Head) (body : StmtTrees) (is : IsLoop t s h body) where
  abbrev loop : LoopOf t s
  loop = record { head = h; body = body; is = is }

  pub numbered : 1 ≤ s
  numbered = from_one t s loop

  -- in a valid program up to 4000
  pub few : IsValid t → s ≤ 4000
  few valid =
      let all : statements_count t.body ≤ 4000 = (small_program t valid.fits).few_statements in
      let inside = loop_fits t s h body is in
      omega (arith, all, inside)

  pub there : s - 1 ≤ statements_count t.body
  there = let inside = loop_fits t s h body is in omega (arith, inside)

  -- what comes of the program when the lists before the DO are lowered
  module _ (names : List (List ℕ)) (l : CodeLowered) (lowers : Lowers t (range_with_len 1 (s - 1)) (not_lowered t) (lowered_view l)) where
    same_front : (u : IsUnlowerable t s names) → u.before ≡ lowered_view l
    same_front u = one_behind t (range_with_len 1 (s - 1)) (not_lowered t) u.before (lowered_view l) u.lowers lowers

    inside_not : is_in_live t (lowered_view l) s ≡ true → IsUnlowerable t s names → ⊥
    inside_not inside u = both_ways (is_in_live t (lowered_view l) s) (ap (λ (p : Lowered). is_in_live t p s) (sym (same_front u)) ∙ u.outside) inside

    -- the DO stands in one that is lowered
    pub in_live : is_in_live t (lowered_view l) s ≡ true → IsTrue false ↔ IsUnlowerable t s names
    in_live inside = ((λ h. let wrong : false ≡ true = h in absurd cc), λ u. absurd (inside_not inside u))

    lowerable_not : IsLowerable s names l → IsUnlowerable t s names → ⊥
    lowerable_not can u = u.invalid can.0 (ap (λ (p : Lowered). lowered_at true p s names) (same_front u) ∙ can.1) can.2

    -- it stands in none
    pub by_lowering : has_list h body ≡ false → is_in_live t (lowered_view l) s ≡ false → (valid : Bool) → IsTrue valid ↔ IsLowerable s names l → IsTrue (not valid) ↔ IsUnlowerable t s names
    by_lowering new outside true is = ((λ h. let wrong : false ≡ true = h in absurd cc), λ u. absurd (lowerable_not (is.0 refl) u))
    by_lowering new outside false is = (
      (λ h. record {
        loop = loop;
        new = new;
        before = lowered_view l;
        lowers = lowers;
        outside = outside;
        invalid = λ q makes valid. (let wrong : false ≡ true = is.1 (q, makes, valid) in absurd cc);
      }),
      λ u. refl,
    )
