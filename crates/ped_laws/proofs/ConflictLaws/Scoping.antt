-- What names stand for in the iterations round a place, and the accesses of acts.
use Rattle.std.proofs.Common.{◌≡◌, ℕ, ℤ, List, [], ◌∷◌, map, filter, Bool, true, false, not, ◌||◌, Some, None, refl, ap, ◌∙◌, inl, inr, if◌then◌else◌}
use Rattle.std.proofs.lemmas.Bool.{or_parts}
use Rattle.ped_flow.specs.ped_base.specs.Lists.{is_same_text, is_among}
use Rattle.ped_flow.specs.ped_base.proofs.NameEquality.{same_is}
use Rattle.ped_eval.specs.ped_store.specs.Cells.{Scalar, Private, same_cell}
use Rattle.ped_eval.specs.ped_store.specs.Acts.{Touch, Place, Act, iterations_of}
use Rattle.ped_eval.specs.ped_store.specs.Races.{Access, accesses, accesses_of, is_access, is_write}
use Rattle.ped_laws.specs.Acts.Orders.{IsIn}
use Rattle.ped_laws.proofs.ActLaws.Lists.{in_parts}
use Rattle.ped_eval.specs.Scopes.{Scope, turns_of, cell_of, index_value}
use Rattle.ped_laws.specs.Covering.Within.{is_storing}

-- the variables of the DO loops round a place, the innermost first
abbrev pub variables_of : Scope → List (List ℕ)
variables_of scope = map (λ f. f.variable) scope

-- a name that is no DO variable round the place has no value there
pub index_untold : (scope : Scope) (x : List ℕ) → is_among x (variables_of scope) ≡ false → index_value scope x ≡ None
index_untold [] x h = refl
index_untold (f ∷ fs) x h =
    let p = or_parts (is_same_text x f.variable) (is_among x (variables_of fs)) h in
    ap (λ (b : Bool). if b then Some f.turn.value else index_value fs x) p.0 ∙ index_untold fs x p.1

-- the place tells the value of each DO variable round it
pub index_told : (scope : Scope) (x : List ℕ) → is_among x (variables_of scope) ≡ true → (n : ℤ) × (index_value scope x ≡ Some n)
index_told [] x h = absurd cc
index_told (f ∷ fs) x h = go (is_same_text x f.variable) (index_told fs x) h
  where
    go : (b : Bool) → (is_among x (variables_of fs) ≡ true → (n : ℤ) × (index_value fs x ≡ Some n)) → (b || is_among x (variables_of fs)) ≡ true → (n : ℤ) × ((if b then Some f.turn.value else index_value fs x) ≡ Some n)
    go true rest h = (f.turn.value, refl)
    go false rest h = rest h

-- a name stands for no scalar's own cell but its own
pub scalar_named : (scope : Scope) (y x : List ℕ) → same_cell (cell_of scope y) (Scalar x) ≡ true → y ≡ x
scalar_named [] y x h = same_is y x h
scalar_named (f ∷ fs) y x h = go (is_among y f.private) (scalar_named fs y x) h
  where
    go : (b : Bool) → (same_cell (cell_of fs y) (Scalar x) ≡ true → y ≡ x) → same_cell (if b then Private y (iterations_of (turns_of (f ∷ fs))) else cell_of fs y) (Scalar x) ≡ true → y ≡ x
    go true rest h = absurd cc
    go false rest h = rest h

-- the cell of a name holds storable numbers where the name is the variable of no DO
pub storing_of : (loop_variables : List (List ℕ)) (scope : Scope) (x : List ℕ) → is_storing loop_variables (cell_of scope x) ≡ not (is_among x loop_variables)
storing_of loop_variables [] x = refl
storing_of loop_variables (f ∷ fs) x = go (is_among x f.private) (storing_of loop_variables fs x)
  where
    go : (b : Bool) → is_storing loop_variables (cell_of fs x) ≡ not (is_among x loop_variables) → is_storing loop_variables (if b then Private x (iterations_of (turns_of (f ∷ fs))) else cell_of fs x) ≡ not (is_among x loop_variables)
    go true rest = refl
    go false rest = rest

-- the access that a touch at a place is
abbrev pub access_by : Place → Touch → Access
access_by at t = record { cell = t.cell; writes = is_write t.manner; place = at; reference = t.reference }

touch_of : (a : Access) (at : Place) (ts : List Touch) → IsIn a (map (access_by at) (filter is_access ts)) → (t : Touch) × IsIn t ts × (a ≡ access_by at t)
touch_of a at [] i = absurd i
touch_of a at (t ∷ ts) i = go (is_access t) (touch_of a at ts) i
  where
    go : (b : Bool) → (IsIn a (map (access_by at) (filter is_access ts)) → (u : Touch) × IsIn u ts × (a ≡ access_by at u))
        → IsIn a (map (access_by at) (if b then t ∷ filter is_access ts else filter is_access ts)) → (u : Touch) × IsIn u (t ∷ ts) × (a ≡ access_by at u)
    go true rest i = elim i [ inl e ↦ (t, inl refl, e) | inr j ↦ (let r = rest j in (r.0, inr r.1, r.2)) ]
    go false rest i = let r = rest i in (r.0, inr r.1, r.2)

-- an access of an act is a touch of it
pub touch_of_access : (a : Access) (act : Act) → IsIn a (accesses_of act) → (t : Touch) × IsIn t act.touches × (a ≡ access_by act.place t)
touch_of_access a act i = touch_of a act.place act.touches i

-- an access of acts is one of an act
pub act_of_access : (a : Access) (acts : List Act) → IsIn a (accesses acts) → (act : Act) × IsIn act acts × IsIn a (accesses_of act)
act_of_access a [] i = absurd i
act_of_access a (act ∷ acts) i = elim (in_parts a (accesses_of act) (accesses acts) i) [ inl j ↦ (act, inl refl, j) | inr j ↦ (let r = act_of_access a acts j in (r.0, inr r.1, r.2)) ]
