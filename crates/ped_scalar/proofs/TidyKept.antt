-- Where no rule stands against `privatise` or `expand`, a tidy program stays tidy.
use Rattle.std.proofs.Common.{◌≡◌, ℕ, List, false, sym, subst, ◌∙◌}
use Rattle.ped_base.specs.Lists.{is_among}
use Rattle.ped_tree.specs.Tree.{ProgramTree}
use Rattle.ped_rules.specs.ped_symbols.specs.Kinds.{names_of}
use Rattle.ped_rules.specs.ped_symbols.specs.NameRefusals.{IsValid}
use Rattle.ped_rules.specs.ped_flow.specs.Questions.{LoopOf, IsShownBehind}
use Rattle.ped_rules.specs.ped_steps.specs.Causes.{NoRule}
use Rattle.ped_rules.specs.ped_steps.specs.Tidy.{IsTidy}
use Rattle.ped_scalar.specs.Privatising.{privatised, StandsAgainstPrivatising}
use Rattle.ped_scalar.specs.Expanding.{expanded, IsExpanded, StandsAgainstExpanding}
use Rattle.ped_scalar.proofs.TidyReferencesPrivatised.{parallel_stays, index_stays, privatised_unwritten}
use Rattle.ped_scalar.proofs.TidyReferencesExpanded.{old_loop, parallel_comes, index_comes, expanded_unwritten}
use Rattle.ped_scalar.proofs.TidyPathsPrivatising.{privatised_shows_less}
use Rattle.ped_scalar.proofs.TidyPathsUnshown.{valid_expanded_shows_less}
use Rattle.ped_scalar.proofs.PrivatiseRules.{its_loop, is_apart}
use Rattle.ped_scalar.proofs.KeptByExpanding as kept

-- with `privatise`: each PARALLEL DO stays as it is, and behind it the program's end shows no more
pub privatised_tidy : (t : ProgramTree) (s : ℕ) (x : List ℕ) → IsValid t → NoRule (StandsAgainstPrivatising s x t) → IsTidy t → IsTidy (privatised t s x)
privatised_tidy t s x valid none tidy = by (its_loop s x t none)
  where
    by : LoopOf t s → IsTidy (privatised t s x)
    by l k p parallel w index =
        let apart = is_apart s x t none l in
        let old : LoopOf t k = record { head = p.head; body = p.body; is = parallel_stays t s x l apart k p parallel } in
        record {
          unwritten = privatised_unwritten t s x l apart (λ n q on y i. (tidy n q on y i).unwritten) k p parallel w index;
          unshown = λ shown. (tidy k old parallel w (index_stays t s x l apart k p parallel w index)).unshown (privatised_shows_less t s x l k w shown);
        }

-- with `expand`: each PARALLEL DO comes from one, and behind it the program's end shows no more of its variables
module _ (t new : ProgramTree) (s : ℕ) (l : LoopOf t s) (x : List ℕ) (valid : IsValid t) (none : NoRule (StandsAgainstExpanding s x t)) (e : IsExpanded t s x l.head new) (tidy : IsTidy t) where
  abbrev made : ProgramTree
  made = expanded t s x e.live e.array e.span

  serial : l.head.parallel ≡ false
  serial = kept.in_order t s x l valid none

  unused : is_among e.array (names_of t) ≡ false
  unused = kept.fresh t s x l valid none tidy new e

  made_tidy : IsTidy made
  made_tidy k p parallel w index =
      let no_index = kept.no_index t s x l valid none tidy in
      let from = parallel_comes t valid s l x e.array e.live e.span serial unused no_index k p parallel in
      let there = index_comes t valid s l x e.array e.live e.span serial unused no_index k p from w index in
      let alone = tidy from.number (old_loop t valid s l x e.array e.live e.span serial unused no_index k p.head p.body from) (from.parallel ∙ parallel) w there in
      record {
        unwritten = expanded_unwritten t valid s l x e.array e.live e.span serial unused no_index (λ n q on y i. (tidy n q on y i).unwritten) k p parallel w index;
        unshown = λ shown.
            alone.unshown
            (valid_expanded_shows_less t s l x e.array e.live e.span valid serial (kept.index t s x l valid none).1 (kept.shared t s x l valid none) from.number w there
            (subst (λ (n : ℕ). IsShownBehind made n w) from.moved shown));
      }

  pub expanded_tidy : IsTidy new
  expanded_tidy = subst IsTidy (sym e.made) made_tidy
