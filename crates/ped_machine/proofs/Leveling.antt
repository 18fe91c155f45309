-- Iterations that have been started: all that is left of one can be done.
use Rattle.std.proofs.Common.{◌≡◌, ◌+◌, ℕ, List, [], ◌∷◌, Bool, Option, None, Result, Ok, Err, sym, ap, subst, ◌∙◌}
use Rattle.std.specs.Prelude.{IfOk}
use Rattle.ped_tree.specs.Tree.{Head, StmtTrees, Do}
use Rattle.ped_symbols.specs.Kinds.{Table}
use Rattle.ped_store.specs.Cells.{Cell}
use Rattle.ped_store.specs.Memories.{Memory}
use Rattle.ped_interleavings.specs.ped_eval.specs.Scopes.{Frame, Scope}
use Rattle.ped_interleavings.specs.ped_eval.specs.Agreement.{DoCopiesStand}
use Rattle.ped_interleavings.specs.ped_eval.specs.Readiness.{CanDo}
use Rattle.ped_interleavings.specs.ped_eval.proofs.Parts.{body_can}
use Rattle.ped_interleavings.specs.Lefts.{Left}
use Rattle.ped_machine.specs.declared.levels.Level.{Level}
use Rattle.ped_machine.specs.declared.opens.Open.{Open}
use Rattle.ped_machine.specs.Parts.{Part, parts_of, base_of, CanGo}
use Rattle.ped_machine.specs.Rests.{IfOpened}
use Rattle.ped_machine.specs.Levels.{level_base, IsSoundLevel}

-- an iteration with all its body left
pub body_sound : {C E : Type 0} (left : C → Left) (base : C → Scope) (sound : C → Table → (Cell → Bool) → Type 0) (r : Result (Level C) E) (scope : Scope) (f : Frame) (fs : Scope) (n : ℕ) (h : Head) (body : StmtTrees) (m new : Memory) → scope ≡ f ∷ fs
    → IfOk r (λ l. l.scope ≡ scope) → IfOk r (λ l. parts_of l.rest.parts ≡ record { stmts = body; first = n + 1; turn = None } ∷ []) → IfOk r (λ l. l.rest.inner ≡ None)
    → (DoCopiesStand fs m.stands → DoCopiesStand scope new.stands)
    → IfOk r (λ l. (table : Table) → CanDo table fs n (Do h body) → DoCopiesStand fs m.stands → IsSoundLevel left base sound l table new.stands)
body_sound left base sound (Ok l) scope f fs n h body m new there same parts none copies =
    λ table can k. record {
      rest = record {
        parts = subst (λ (z : Scope). CanGo table (parts_of l.rest.parts) z) (sym same) (subst (λ (z : Scope). CanGo table (parts_of l.rest.parts) z) (sym there) (subst (λ (ps : List Part). CanGo table ps (f ∷ fs)) (sym parts) (body_can table fs n h body can f, tt)));
        inner = subst (λ (o : Option (Open _)). IfOpened left base sound l.scope o table new.stands) (sym none) tt;
      };
      copies = subst (λ (z : Scope). DoCopiesStand z new.stands) (sym same) (copies k);
    }
body_sound left base sound (Err x) scope f fs n h body m new there same parts none copies = tt

-- it stands in its own iterations
pub body_inside : {C E : Type 0} (r : Result (Level C) E) (scope other : Scope) (ts : StmtTrees) (n : ℕ) → scope ≡ other
    → IfOk r (λ l. l.scope ≡ scope) → IfOk r (λ l. parts_of l.rest.parts ≡ record { stmts = ts; first = n; turn = None } ∷ []) → IfOk r (λ l. level_base l ≡ other)
body_inside (Ok l) scope other ts n e same parts = ap (λ (ps : List Part). base_of ps l.scope) parts ∙ same ∙ e
body_inside (Err x) scope other ts n e same parts = tt
