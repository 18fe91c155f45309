-- What can be done where some cells exist can be done where those that it needs exist (plain words).
use Rattle.std.specs.Prelude.{◌≡◌, ◌⊎◌, List, [], ◌∷◌, ◌++◌, Bool, true, Option, Some, None, map}
use Rattle.std.proofs.Common.{inl, inr, refl, sym, ap, ◌∙◌, append-nil, append_assoc}
use Rattle.std.proofs.lemmas.List.{map-append}
use Rattle.ped_symbols.specs.Kinds.{Table}
use Rattle.ped_store.specs.Cells.{Cell, Scalar, Element, Private, In, Out, Iteration}
use Rattle.ped_store.specs.Acts as acts
use Rattle.ped_interleavings.specs.ped_eval.specs.Scopes.{Frame, Scope, turns_of}
use Rattle.ped_interleavings.specs.ped_eval.specs.ScopeViews.{outside}
use Rattle.ped_interleavings.specs.ped_eval.specs.Agreement.{path_of, DoCopiesStand}
use Rattle.ped_interleavings.specs.Lefts.{Left}
use Rattle.ped_machine.specs.Parts.{Turn, Part, parts_of, behind_turn, base_of}
use Rattle.ped_machine.specs.Bases.{IsLonger, IsNear, IsWithin}
use Rattle.ped_machine.specs.Opens.{IsOpen}
use Rattle.ped_machine.specs.Rests.{IfOpened, IsSound}
use Rattle.ped_machine.specs.Levels.{level_base, never_base, IsSoundLevel, IsNever}
use Rattle.ped_machine.specs.declared.opens.Open.{Open}
use Rattle.ped_machine.specs.declared.rests.Rest.{Rest}
use Rattle.ped_machine.specs.declared.levels.Level.{Level}
use Rattle.ped_machine.specs.declared.works.Never.{Never}

-- of the cells that may be needed in these iterations each that exists is among the others, too
abbrev pub MoreNear : Scope → (Cell → Bool) → (Cell → Bool) → Type 0
MoreNear base stands more = (c : Cell) → IsNear base c → stands c ≡ true → more c ≡ true

-- the iterations of some inside of others
turns_append : (fs gs : Scope) → turns_of (fs ++ gs) ≡ turns_of gs ++ turns_of fs
turns_append [] gs = sym (append-nil (turns_of gs))
turns_append (f ∷ fs) gs = ap (λ ts. ts ++ f.turn ∷ []) (turns_append fs gs) ∙ append_assoc (turns_of gs) (turns_of fs) (f.turn ∷ [])

-- the path of iterations inside of others
pub path_append : (fs gs : Scope) → path_of (fs ++ gs) ≡ path_of gs ++ path_of fs
path_append fs gs =
    ap (map (λ (t : acts.Turn). record { statement = t.statement; number = t.number })) (turns_append fs gs)
    ∙ map-append (λ (t : acts.Turn). record { statement = t.statement; number = t.number }) (turns_of gs) (turns_of fs)

-- iterations inside of these have a longer path
pub longer_within : (base scope : Scope) → IsWithin base scope → IsLonger (path_of base) (path_of scope)
longer_within base scope w = (path_of w.0, ap path_of w.1 ∙ path_append w.0 base)

-- a path that is longer than a longer one is longer
pub longer_twice : (a b c : List Iteration) → IsLonger a b → IsLonger b c → IsLonger a c
longer_twice a b c g h = (g.0 ++ h.0, h.1 ∙ ap (λ (p : List Iteration). p ++ h.0) g.1 ∙ append_assoc a g.0 h.0)

-- of two paths that one begins with, one begins with the other
pub both_before : (a b x y : List Iteration) → a ++ x ≡ b ++ y → IsLonger a b ⊎ IsLonger b a
both_before [] b x y e = inl (b, refl)
both_before (i ∷ a) [] x y e = inr (i ∷ a, refl)
both_before (i ∷ a) (k ∷ b) x y e =
    let h : i ≡ k = cc in
    let t : a ++ x ≡ b ++ y = cc in
    by (both_before a b x y t) h
  where
    by : IsLonger a b ⊎ IsLonger b a → i ≡ k → IsLonger (i ∷ a) (k ∷ b) ⊎ IsLonger (k ∷ b) (i ∷ a)
    by (inl g) h = inl (g.0, λ z. sym h z ∷ g.1 z)
    by (inr g) h = inr (g.0, λ z. h z ∷ g.1 z)

-- what comes near a longer path comes near a shorter one
near_by : (a b p : List Iteration) → IsLonger a b → IsLonger b p ⊎ IsLonger p b → IsLonger a p ⊎ IsLonger p a
near_by a b p g (inl h) = inl (longer_twice a b p g h)
near_by a b p g (inr h) = both_before a p g.0 h.0 (sym g.1 ∙ h.1)

-- what iterations inside may need these may need
pub near_within : (base scope : Scope) (c : Cell) → IsWithin base scope → IsNear scope c → IsNear base c
near_within base scope (Private x p) w h = near_by (path_of base) (path_of scope) p (longer_within base scope w) h
near_within base scope (Scalar x) w h = tt
near_within base scope (Element x js) w h = tt
near_within base scope In w h = tt
near_within base scope Out w h = tt

-- so the same exists for these iterations
pub more_within : (base scope : Scope) (stands more : Cell → Bool) → IsWithin base scope → MoreNear base stands more → MoreNear scope stands more
more_within base scope stands more w g c h = g c (near_within base scope c w h)

-- an iteration has a longer path than those around it
own_longer : (f : Frame) (fs : Scope) → IsLonger (path_of fs) (path_of (f ∷ fs))
own_longer f fs = longer_within fs (f ∷ fs) (f ∷ [], refl)

-- the copies of iterations around these still exist
copies_round : (whole scope : Scope) (stands more : Cell → Bool) → IsLonger (path_of scope) (path_of whole) → MoreNear whole stands more → DoCopiesStand scope stands → DoCopiesStand scope more
copies_round whole [] stands more l g h = tt
copies_round whole (f ∷ fs) stands more l g h = (
  λ x k. g (Private x (path_of (f ∷ fs))) (inr l) (h.0 x k),
  copies_round whole fs stands more (longer_twice (path_of fs) (path_of (f ∷ fs)) (path_of whole) (own_longer f fs) l) g h.1,
)

-- the copies of iterations still exist
pub copies_near : (scope : Scope) (stands more : Cell → Bool) → MoreNear scope stands more → DoCopiesStand scope stands → DoCopiesStand scope more
copies_near scope stands more g h = copies_round scope scope stands more ([], sym (append-nil (path_of scope))) g h

-- the rest of parts is in their base
pub parts_within : (ps : List Part) (scope : Scope) → IsWithin (base_of ps scope) scope
parts_within [] scope = ([], refl)
parts_within (p ∷ ps) scope = by p.turn (λ inner. parts_within ps inner)
  where
    by : (o : Option Turn) → ((inner : Scope) → IsWithin (base_of ps inner) inner) → IsWithin (base_of ps (behind_turn o scope)) scope
    by None h = h scope
    by (Some t) h = one scope h
      where
        one : (scope : Scope) → ((inner : Scope) → IsWithin (base_of ps inner) inner) → IsWithin (base_of ps (outside scope)) scope
        one [] h = h []
        one (f ∷ fs) h = let w = h fs in (f ∷ w.0, λ i. f ∷ w.1 i)

-- all cells that exist are among the others, too
abbrev pub More : (Cell → Bool) → (Cell → Bool) → Type 0
More stands more = (c : Cell) → stands c ≡ true → more c ≡ true

-- the copies of iterations still exist
pub copies_grow : (scope : Scope) (stands more : Cell → Bool) → More stands more → DoCopiesStand scope stands → DoCopiesStand scope more
copies_grow [] stands more g h = tt
copies_grow (f ∷ fs) stands more g h = (λ x k. g (Private x (path_of (f ∷ fs))) (h.0 x k), copies_grow fs stands more g h.1)

module _ {C : Type 0} (left : C → Left) (base : C → Scope) (sound : C → Table → (Cell → Bool) → Type 0)
    (grows : (w : C) (table : Table) (stands more : Cell → Bool) → MoreNear (base w) stands more → sound w table stands → sound w table more) where
  -- all that is left of an open loop can be done still
  pub open_grows : (table : Table) (stands more : Cell → Bool) (scope : Scope) (o : Open C) → MoreNear scope stands more → IsOpen left base sound table stands scope o → IsOpen left base sound table more scope o
  open_grows table stands more scope o g h = record {
    plan = h.plan;
    can = h.can;
    some = h.some;
    marks = h.marks;
    running = λ j key less r.
        let t = h.running j key less r in
        record {
          task = t.task;
          kept = t.kept;
          inside = t.inside;
          unfinished = t.unfinished;
          safe = grows t.task table stands more (more_within scope (base t.task) stands more (_ ∷ [], t.inside) g) t.safe;
        };
    real = h.real;
    keys = h.keys;
  }

  opened_grow : (table : Table) (stands more : Cell → Bool) (scope : Scope) (o : Option (Open C)) → MoreNear scope stands more → IfOpened left base sound scope o table stands → IfOpened left base sound scope o table more
  opened_grow table stands more scope None g h = tt
  opened_grow table stands more scope (Some o) g h = open_grows table stands more scope o g h

  -- and all that is left
  pub rest_grows : (scope : Scope) (r : Rest C) (table : Table) (stands more : Cell → Bool) → MoreNear scope stands more → IsSound left base sound scope r table stands → IsSound left base sound scope r table more
  rest_grows scope r table stands more g h = record { parts = h.parts; inner = opened_grow table stands more scope r.inner g h.inner }

  pub level_grows : (l : Level C) (table : Table) (stands more : Cell → Bool) → MoreNear (level_base l) stands more → IsSoundLevel left base sound l table stands → IsSoundLevel left base sound l table more
  level_grows l table stands more g h =
      let k = more_within (level_base l) l.scope stands more (parts_within (parts_of l.rest.parts) l.scope) g in
      record { rest = rest_grows l.scope l.rest table stands more k h.rest; copies = copies_near l.scope stands more k h.copies }

-- where nothing is left
pub never_grows : (w : Never) (table : Table) (stands more : Cell → Bool) → MoreNear (never_base w) stands more → IsNever w table stands → IsNever w table more
never_grows w table stands more g h = h
