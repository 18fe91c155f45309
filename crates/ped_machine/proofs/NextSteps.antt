-- What steps come to, taken apart.
use Rattle.std.proofs.Common.{◌≡◌, ℕ, List, [], ◌∷◌, Result, Ok, Err, refl}
use Rattle.ped_store.specs.Acts.{Place, Act}
use Rattle.ped_interleavings.specs.ped_eval.specs.Evaluation.{Seen}
use Rattle.ped_interleavings.specs.ped_eval.specs.Runs.{Ending, going, stopped, failed}
use Rattle.ped_interleavings.specs.Lefts.{Left}
use Rattle.ped_interleavings.specs.Steps.{Next, over, met, went, halted, inside, by_run, seen_next}

pub went_left : (a b : Act) (l r : Left) → went a l ≡ went b r → l ≡ r
went_left a b l r e = cc

pub over_is_not : (a : Act) (r : Left) → over ≡ went a r → ⊥
over_is_not a r e = cc

pub met_is_not : (fault statement : ℕ) (a : Act) (r : Left) → met fault statement ≡ went a r → ⊥
met_is_not fault statement a r e = cc

pub halted_is_not : (b a : Act) (r : Left) → halted b ≡ went a r → ⊥
halted_is_not b a r e = cc

-- the step of a statement of one act leaves what is behind it
pub by_run_leaves : (acts : List Act) (ending : Ending) (rest : Left) (a : Act) (r : Left) → by_run acts ending rest ≡ went a r → rest ≡ r
by_run_leaves acts (failed fault statement) rest a r e = absurd (met_is_not fault statement a r e)
by_run_leaves (b ∷ acts) (going s) rest a r e = went_left b a rest r e
by_run_leaves (b ∷ acts) (stopped s) rest a r e = absurd (halted_is_not b a r e)
by_run_leaves [] (going s) rest a r e = absurd (over_is_not a r e)
by_run_leaves [] (stopped s) rest a r e = absurd (over_is_not a r e)

-- a step that goes on with a value has come to one
pub seen_goes : {A : Type 0} (at : Place) (seen : List Seen) (x : Result A ℕ) (next : List Seen → A → Next) (a : Act) (r : Left) → seen_next at seen x next ≡ went a r → (v : A) × (x ≡ Ok v) × (next seen v ≡ went a r)
seen_goes at seen (Ok v) next a r e = (v, refl, e)
seen_goes at seen (Err fault) next a r e = absurd (met_is_not fault at.statement a r e)

-- a step of an iteration is one of the whole
pub inside_goes : (x : Next) (whole : Left → Left) (a : Act) (r : Left) → inside x whole ≡ went a r → (b : Act) × (l : Left) × (x ≡ went b l) × (whole l ≡ r)
inside_goes over whole a r e = absurd (over_is_not a r e)
inside_goes (met fault statement) whole a r e = absurd (met_is_not fault statement a r e)
inside_goes (went b l) whole a r e = (b, l, refl, went_left b a (whole l) r e)
inside_goes (halted b) whole a r e = absurd (halted_is_not b a r e)
