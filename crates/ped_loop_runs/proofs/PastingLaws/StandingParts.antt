-- Executions in a list of acts: what is known of each holds of all.
use Rattle.std.proofs.Common.{◌≡◌, ℕ, List, [], ◌∷◌, ◌++◌, Bool, ◌⊎◌, inl, inr, sym, subst, append-nil}
use Rattle.ped_bodies.specs.ped_flow.specs.ped_tree.specs.Tree.{ProgramTree}
use Rattle.ped_bodies.specs.ped_store.specs.Cells.{Cell}
use Rattle.ped_bodies.specs.ped_store.specs.Stores.{Store}
use Rattle.ped_bodies.specs.ped_store.specs.Acts.{Act}
use Rattle.ped_bodies.specs.ped_laws.specs.Acts.Fitting.{store_after}
use Rattle.ped_bodies.specs.ped_laws.specs.Acts.Pieces.{Part, same, changed, old_parts, StandsFor}
use Rattle.ped_bodies.specs.ped_eval.specs.Scopes.{Setting, Scope}
use Rattle.ped_bodies.specs.ped_eval.specs.Runs.{Run}
use Rattle.ped_loop_runs.specs.Meaning.{SuitEnds}
use Rattle.ped_loop_runs.specs.OtherCopies.{IsOtherExit, IsExchangedNear, AreExchangedNear, StandNear, AskNothing}
use Rattle.ped_loop_runs.specs.Pasting.{StandInstead, PartsStandBy, IsExchanged, AreChangedBy, AreExchanged}
use Rattle.ped_loop_runs.proofs.PastingLaws.ExitsStand.{exit_stands}

-- each changed part is changed so that the new one may stand for the old one
module _ (agreed : List Act → Cell → Bool) (By : List Act → List Act → Store → List Act → List Act → Type 0)
    (stands : (front behind : List Act) (u : Store) (old new : List Act) → By front behind u old new → StandsFor (record { agreed = agreed (old ++ behind); old = old; new = new }) (agreed behind) u) where
  stand_behind : (front : List Act) (parts : List Part) (u : Store) → AreChangedBy By front parts [] u → PartsStandBy agreed parts u
  stand_behind front [] u e = tt
  stand_behind front (same acts ∷ parts) u e = stand_behind (front ++ acts) parts (store_after acts u) e
  stand_behind front (changed old new ∷ parts) u e = (
    subst (λ (behind : List Act). StandsFor (record { agreed = agreed (old ++ behind); old = old; new = new }) (agreed behind) u) (append-nil (old_parts parts)) (stands front (old_parts parts ++ []) u old new e.0),
    stand_behind (front ++ old) parts (store_after old u) e.1,
  )

  pub changed_stand : (parts : List Part) (start : Store) → AreChangedBy By [] parts [] start → PartsStandBy agreed parts start
  changed_stand parts start e = stand_behind [] parts start e

module _ (agreed : List Act → Cell → Bool) (behind : List Act) (u : Store) where
  abbrev Instead : List Act → List Act → Type 0
  Instead old new = StandsFor (record { agreed = agreed (old ++ behind); old = old; new = new }) (agreed behind) u

  -- the same acts by other names
  told_so : (old new acts fresh : List Act) → old ≡ acts → new ≡ fresh → Instead acts fresh → Instead old new
  told_so old new acts fresh e f h = subst (λ (a : List Act). Instead a new) (sym e) (subst (λ (b : List Act). Instead acts b) (sym f) h)

pub all_stand : (agreed : List Act → Cell → Bool) (p : Setting) (t : ProgramTree) (start : Store) (l count : ℕ) (piece : Scope → Store → Run) (fresh : Scope → Store → List Act) → StandInstead agreed p t start l count piece fresh
    → (parts : List Part) → AreExchanged p t start l count piece fresh [] parts [] start → PartsStandBy agreed parts start
all_stand agreed p t start l count piece fresh stands parts e =
    changed_stand agreed (IsExchanged p t start l count piece fresh) (λ front behind u old new x. told_so agreed behind u old new (piece x.scope u).acts (fresh x.scope u) x.old_is x.new_is (stands x.scope front behind u x.executed x.goes)) parts start e

pub all_stand_near : (shown : Cell → Bool) (agreed : List Act → Cell → Bool) → SuitEnds shown agreed → (names : List (List ℕ)) (apart : Cell → Bool) (p : Setting) (t : ProgramTree) (start : Store) (l count : ℕ) (piece : Scope → Store → Run) (fresh : (scope other : Scope) → Store → List Act)
    → StandNear agreed names apart p t start l count piece fresh → AskNothing agreed names apart p t start l → (parts : List Part) → AreExchangedNear names apart p t start l count piece fresh [] parts [] start → PartsStandBy agreed parts start
all_stand_near shown agreed suit names apart p t start l count piece fresh stands asked parts e =
    changed_stand agreed (λ front behind u old new. IsExchangedNear names apart p t start l count piece fresh front behind u old new ⊎ IsOtherExit names apart p t start l front behind u old new) (λ front behind u old new x. elim x [
      | inl k ↦ told_so agreed behind u old new (piece k.scope u).acts (fresh k.scope k.other u) k.old_is k.new_is (stands k.scope k.other front behind u k.near k.executed k.goes)
      | inr k ↦ exit_stands shown agreed suit names apart p t start l asked front behind u old new k
    ]) parts start e
