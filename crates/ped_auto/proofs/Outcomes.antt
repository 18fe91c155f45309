-- What holds of an error.
use Rattle.std.proofs.Common.{◌≡◌, ℕ, ◌-◌, List, Bool, true, false, not, ◌||◌, Option, Some, None, is_some, Result, Ok, Err, OnErr, refl, sym, subst, ap, ◌∙◌}
use Rattle.std.specs.Option.{is_none}
use Rattle.ped_script.specs.declared.items.Command.{Command}
use Rattle.ped_auto.specs.Editing.{Editing}
use Rattle.ped_auto.specs.Strategy.{Stage}
use Rattle.ped_auto.specs.CodeStages.{stage, Leads, IsCut}
use Rattle.ped_auto.proofs.Cutting.{cut_here}

pub when_err : {T X : Type 0} (r : Result T X) (P : Type 0) → P → OnErr r P
when_err (Ok x) P h = tt
when_err (Err x) P h = h

-- where neither holds, each fails
pub neither_of : (a b : Bool) → (a || b) ≡ false → (a ≡ false) × (b ≡ false)
neither_of true b h = absurd cc
neither_of false b h = (refl, h)

-- whether there is none
pub none_by : {A : Type 0} (o : Option A) (b : Bool) → is_some o ≡ not b → is_none o ≡ b
none_by None true h = refl
none_by None false h = absurd cc
none_by (Some x) true h = absurd cc
none_by (Some x) false h = refl

-- the stage with other words for its parts
pub stage_is : {S : Type 0} (s t : S) (a b : List Command) (m n before : ℕ) → s ≡ t → a ≡ b → m ≡ n → stage s a (m - before) ≡ stage t b (n - before)
stage_is s t a b m n before e f h = ap (λ x. stage x a (m - before)) e ∙ ap (λ x. stage t x (m - before)) f ∙ ap (λ k. stage t b (k - before)) h

-- what is cut off where nothing has been done yet, in other words for the stage
pub cut_left : {S : Type 0} (e : Editing S) (Whole : Stage S → Stage S → Type 0) (p q : Stage S) → ((r : Stage S) → Whole p r → Leads e p r) → q ≡ p → IsCut e Whole p q.now q.tests
cut_left {S} e Whole p q lead same = subst (λ (x : Stage S). IsCut e Whole p x.now x.tests) (sym same) (cut_here e Whole p lead)
