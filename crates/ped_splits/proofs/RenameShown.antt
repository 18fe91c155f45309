-- What is asked of a run at its end, where the second of two DO loops gets the variable of the first: all that a tidy program shows, or nothing.
use Rattle.std.proofs.Common.{◌≡◌, ℕ, List, Bool, true, not, ◌&&◌, inl, inr}
use Rattle.std.proofs.lemmas.Bool.{and_parts}
use Rattle.ped_tree.specs.Tree.{ProgramTree}
use Rattle.ped_rules.specs.ped_steps.specs.Tidy.{IsTidy}
use Rattle.ped_rules.specs.ped_flow.proofs.Truths.{untrue}
use Rattle.ped_rules.specs.ped_flow.specs.Questions.{LoopOf, IsIndexIn, IsShownBehind}
use Rattle.ped_rules.specs.ped_laws.proofs.ActLaws.Renamings.{or_either, or_left, or_right}
use Rattle.ped_rules.specs.ped_laws.specs.Acts.Sets.{needs, nothing, wants, written}
use Rattle.ped_rules.specs.ped_laws.specs.Runs.Showing.{shown_at_end}
use Rattle.ped_rules.specs.ped_store.specs.Acts.{Act}
use Rattle.ped_rules.specs.ped_store.specs.Cells.{Cell, Scalar}
use Rattle.ped_splits.specs.OneVariable.{IsUnwritten}

-- cells that are shown at the end, but none of a variable of a PARALLEL DO, or of a DO in it, that may be shown behind it
pub record MayBeShown (t : ProgramTree) (shown : Cell → Bool) : Type 0 where
  pub at_end : (c : Cell) → shown c ≡ true → shown_at_end t c ≡ true
  pub unshown : (l : ℕ) (loop : LoopOf t l) → loop.head.parallel ≡ true → (x : List ℕ) → IsIndexIn t l x → IsShownBehind t l x → shown (Scalar x) ≡ true → ⊥

pub tidy_shown : (t : ProgramTree) → IsTidy t → MayBeShown t (shown_at_end t)
tidy_shown t tidy = record { at_end = λ c h. h; unshown = λ l loop parallel x index behind h. (tidy l loop parallel x index).unshown behind }

pub nothing_shown : (t : ProgramTree) → MayBeShown t nothing
nothing_shown t = record { at_end = λ c h. untrue h; unshown = λ l loop parallel x index behind h. untrue h }

pub tidy_unwritten : (t : ProgramTree) → IsTidy t → (x : List ℕ) → IsUnwritten t x
tidy_unwritten t tidy x l loop parallel index = (tidy l loop parallel x index).unwritten

-- what acts want where fewer cells are shown, they want
pub wanted_more : (shown more : Cell → Bool) (acts : List Act) (c : Cell) → (shown c ≡ true → more c ≡ true) → wants shown acts c ≡ true → wants more acts c ≡ true
wanted_more shown more acts c fewer h = elim (or_either (needs acts c) (shown c && not (written acts c)) h) [
  | inl n ↦ or_left (needs acts c) (more c && not (written acts c)) n
  | inr k ↦ (
      let parts = and_parts (shown c) (not (written acts c)) k in
      let kept : more c && not (written acts c) ≡ true = (λ i. fewer parts.0 i && parts.1 i) in
      or_right (needs acts c) (more c && not (written acts c)) kept
      )
]
