-- The arguments of a CALL, looked at one after the other.
use Rattle.std.proofs.Common.{◌≡◌, ◌⊎◌, inl, inr, ℕ, zero, suc, ◌+◌, ◌-◌, ◌<◌, ◌≤◌, List, [], ◌∷◌, Bool, true, not, ◌||◌, ◌&&◌, Option, Some, None, is_some, length, drop, get_or, refl, sym, ap, subst, ◌∙◌, arith, Decides}
use Rattle.std.specs.Prelude.{IsTrue}
use Rattle.std.proofs.lemmas.Bool.{or_left, or_right, or_cases, and_parts, and_from, not-true, not_from_false, false_from_ne_true}
use Rattle.std.proofs.lemmas.Bool.Decides.{Decides-like, Decides-and, Decides-or, not_from_Decides}
use Rattle.std.proofs.lemmas.Option.{none-some}
use Rattle.std.proofs.lemmas.List.{drop_more, drop_all, drop-drop, get_or_default, get_or-map}
use Rattle.ped_base.specs.Dimensions.{Dimensions}
use Rattle.ped_units.specs.ped_valid.specs.ped_symbols.specs.declared.symbols.Kind.{Kind}
use Rattle.ped_units.specs.ped_valid.specs.ped_symbols.specs.declared.symbols.Kind.TheVariants.{Array}
use Rattle.ped_units.specs.ped_valid.specs.ped_symbols.specs.Entries.{entry_of}
use Rattle.ped_units.specs.ped_valid.specs.ped_symbols.specs.Kinds.{Table, table_of}
use Rattle.ped_units.specs.ped_valid.specs.ped_symbols.proofs.RightUseLaws.Found.{found_in_program}
use Rattle.ped_units.specs.Units.{ProgramUnit, ProgramUnits, all_units}
use Rattle.ped_units.specs.Linking.{IsAssigned, IsIndex, kind_there, bounds_by, is_scalar}
use Rattle.ped_links.specs.Arguments.{ForSome, IsOtherKind, IsMisfit, kind_of_argument, kind_of_name, is_one_of}
use Rattle.ped_units.specs.Naming.{AreTables}
use Rattle.ped_units.specs.Refusals.{for_names}
use Rattle.ped_links.specs.Scenes.{unit_at}
use Rattle.ped_links.specs.declared.placing.Around.{Around}

-- at a place, or behind it
pub some_from : (P : List ℕ → Option (List ℕ) → List (List ℕ) → List (Option (List ℕ)) → Type 0) (fs : List (List ℕ)) (ns : List (Option (List ℕ))) (k : ℕ) → k < length fs → k < length ns → ForSome P (drop k fs) (drop k ns)
    → P (get_or fs k []) (get_or ns k None) (drop (k + 1) fs) (drop (k + 1) ns) ⊎ ForSome P (drop (k + 1) fs) (drop (k + 1) ns)
some_from P fs ns k low also h = subst (λ (gs : List (List ℕ)). ForSome P gs (get_or ns k None ∷ drop (k + 1) ns)) (drop_more fs k [] low) (subst (λ (ms : List (Option (List ℕ))). ForSome P (drop k fs) ms) (drop_more ns k None also) h)

pub some_to : (P : List ℕ → Option (List ℕ) → List (List ℕ) → List (Option (List ℕ)) → Type 0) (fs : List (List ℕ)) (ns : List (Option (List ℕ))) (k : ℕ) → k < length fs → k < length ns
    → P (get_or fs k []) (get_or ns k None) (drop (k + 1) fs) (drop (k + 1) ns) ⊎ ForSome P (drop (k + 1) fs) (drop (k + 1) ns) → ForSome P (drop k fs) (drop k ns)
some_to P fs ns k low also h =
    subst (λ (gs : List (List ℕ)). ForSome P gs (drop k ns)) (sym (drop_more fs k [] low)) (subst (λ (ms : List (Option (List ℕ))). ForSome P (get_or fs k [] ∷ drop (k + 1) fs) ms) (sym (drop_more ns k None also)) h)

no_argument : (P : List ℕ → Option (List ℕ) → List (List ℕ) → List (Option (List ℕ)) → Type 0) (fs : List (List ℕ)) → ForSome P fs [] → ⊥
no_argument P [] h = h
no_argument P (f ∷ fs) h = h

-- what holds behind a place holds
pub some_behind : (P : List ℕ → Option (List ℕ) → List (List ℕ) → List (Option (List ℕ)) → Type 0) (k : ℕ) (fs : List (List ℕ)) (ns : List (Option (List ℕ))) → ForSome P (drop k fs) (drop k ns) → ForSome P fs ns
some_behind P zero fs ns h = h
some_behind P (suc k) [] ns h = absurd h
some_behind P (suc k) (f ∷ fs) [] h = absurd (no_argument P (drop k fs) h)
some_behind P (suc k) (f ∷ fs) (n ∷ ns) h = inr (some_behind P k fs ns h)

-- behind the last place nothing holds
pub some_nowhere : (P : List ℕ → Option (List ℕ) → List (List ℕ) → List (Option (List ℕ)) → Type 0) (k : ℕ) (fs : List (List ℕ)) (ns : List (Option (List ℕ))) → (length fs ≤ k) ⊎ (length ns ≤ k) → ForSome P (drop k fs) (drop k ns) → ⊥
some_nowhere P k fs ns (inl e) h = subst (λ (gs : List (List ℕ)). ForSome P gs (drop k ns)) (drop_all k fs e) h
some_nowhere P k fs ns (inr e) h = no_argument P (drop k fs) (subst (λ (ms : List (Option (List ℕ))). ForSome P (drop k fs) ms) (drop_all k ns e) h)

some_there : (o : Option Dimensions) → is_some o ≡ true → (d : Dimensions) × (o ≡ Some d)
some_there None e = absurd cc
some_there (Some d) e = (d, refl)

-- an array stands for another kind
pub array_kind : (b : Dimensions) (a : Option Kind) (assigned : Type 0) (has : Bool) → Decides has (bounds_by a ≡ Some b) → Decides (not has) (IsOtherKind (Some (Array b)) a assigned)
array_kind b a assigned has h = (λ e. inl (b, refl, not_from_Decides has h (not-true has e)), back)
  where
    back : IsOtherKind (Some (Array b)) a assigned → not has ≡ true
    back (inl k) = not_from_false has (false_from_ne_true has (λ t. k.2 (h.0 t ∙ k.1)))
    back (inr (inl k)) = absurd (none-some b (sym k.1))
    back (inr (inr k)) = absurd (none-some b (sym k.0))

-- a scalar does
pub scalar_kind : (f a : Option Kind) (assigned result : Bool) → bounds_by f ≡ None → result ≡ (is_some (bounds_by a) || (assigned && not (is_scalar a))) → Decides result (IsOtherKind f a (IsTrue assigned))
scalar_kind f a assigned result none e = (forth, back)
  where
    forth : result ≡ true → IsOtherKind f a (IsTrue assigned)
    forth t = elim (or_cases (is_some (bounds_by a)) (assigned && not (is_scalar a)) (sym e ∙ t)) [
      | inl s ↦ let there = some_there (bounds_by a) s in inr (inl (there.0, none, there.1))
      | inr s ↦ let parts = and_parts assigned (not (is_scalar a)) s in inr (inr (none, parts.0, not-true (is_scalar a) parts.1))
    ]

    back : IsOtherKind f a (IsTrue assigned) → result ≡ true
    back (inl k) = absurd (none-some k.0 (sym none ∙ k.1))
    back (inr (inl k)) = e ∙ or_left (is_some (bounds_by a)) (assigned && not (is_scalar a)) (ap is_some k.2)
    back (inr (inr k)) = e ∙ or_right (is_some (bounds_by a)) (assigned && not (is_scalar a)) (and_from assigned (not (is_scalar a)) k.1 (not_from_false (is_scalar a) k.2))

other_as : (f a : Option Kind) (one other : Type 0) → (one → other) → IsOtherKind f a one → IsOtherKind f a other
other_as f a one other g (inl h) = inl h
other_as f a one other g (inr (inl h)) = inr (inl h)
other_as f a one other g (inr (inr h)) = inr (inr (h.0, g h.1, h.2))

told : (b c : Bool) → b ≡ c → Decides b (IsTrue c)
told b c h = (λ e. sym h ∙ e, λ e. h ∙ e)

-- an argument doesn't fit by its kind, or by the loops round the CALL
pub misfit_told : (us : ProgramUnits) (u v : ProgramUnit) (around : Around) (f : List ℕ) (a : Option (List ℕ)) (other assigned index at_variable at_private : Bool)
    → Decides other (IsOtherKind (kind_there v f) (kind_of_name u a) (IsTrue assigned)) → Decides assigned (IsAssigned us v f) → Decides index (IsIndex us v f) → at_variable ≡ is_one_of a around.variables → at_private ≡ is_one_of a around.private
    → Decides ((other || (assigned && at_variable)) || (index && at_private)) (IsMisfit us u v around f a)
misfit_told us u v around f a other assigned index at_variable at_private o s i x y =
    Decides-like ((other || (assigned && at_variable)) || (index && at_private)) forth back
    (Decides-or (other || (assigned && at_variable)) (index && at_private) (Decides-or other (assigned && at_variable) o (Decides-and assigned at_variable s (told at_variable (is_one_of a around.variables) x)))
    (Decides-and index at_private i (told at_private (is_one_of a around.private) y)))
  where
    forth : ((IsOtherKind (kind_there v f) (kind_of_name u a) (IsTrue assigned) ⊎ (IsAssigned us v f × IsTrue (is_one_of a around.variables))) ⊎ (IsIndex us v f × IsTrue (is_one_of a around.private))) → IsMisfit us u v around f a
    forth (inl (inl k)) = inl (other_as (kind_there v f) (kind_of_name u a) (IsTrue assigned) (IsAssigned us v f) s.0 k)
    forth (inl (inr k)) = inr (inl k)
    forth (inr k) = inr (inr k)

    back : IsMisfit us u v around f a → ((IsOtherKind (kind_there v f) (kind_of_name u a) (IsTrue assigned) ⊎ (IsAssigned us v f × IsTrue (is_one_of a around.variables))) ⊎ (IsIndex us v f × IsTrue (is_one_of a around.private)))
    back (inl k) = inl (inl (other_as (kind_there v f) (kind_of_name u a) (IsAssigned us v f) (IsTrue assigned) s.1 k))
    back (inr (inl k)) = inl (inr k)
    back (inr (inr k)) = inr k

-- a name stands at a place, and one of two dummy arguments is assigned
pub again_told : (us : ProgramUnits) (v : ProgramUnit) (f g name : List ℕ) (a : Option (List ℕ)) (again first second : Bool) → Decides again (a ≡ Some name) → Decides first (IsAssigned us v f) → Decides second (IsAssigned us v g)
    → Decides (again && (first || second)) ((a ≡ Some name) × (IsAssigned us v f ⊎ IsAssigned us v g))
again_told us v f g name a again first second o s t = Decides-and again (first || second) o (Decides-or first second s t)

-- what holds behind a place holds behind one before it
pub some_later : (P : List ℕ → Option (List ℕ) → List (List ℕ) → List (Option (List ℕ)) → Type 0) (k j : ℕ) (fs : List (List ℕ)) (ns : List (Option (List ℕ))) → k ≤ j → ForSome P (drop j fs) (drop j ns) → ForSome P (drop k fs) (drop k ns)
some_later P k j fs ns low h =
    let m = j - k in
    let same : j ≡ k + m = omega (arith, low) in
    some_behind P m (drop k fs) (drop k ns)
    (subst (λ (gs : List (List ℕ)). ForSome P gs (drop m (drop k ns))) (ap (λ (i : ℕ). drop i fs) same ∙ sym (drop-drop m k fs))
    (subst (λ (ms : List (Option (List ℕ))). ForSome P (drop j fs) ms) (ap (λ (i : ℕ). drop i ns) same ∙ sym (drop-drop m k ns)) h))

-- what is read at a place
pub read_at : {X : Type 0} (xs ys : List X) (k : ℕ) (r d : X) → xs ≡ ys → k < length ys → get_or xs k r ≡ get_or ys k d
read_at xs ys k r d e low = ap (λ zs. get_or zs k r) e ∙ get_or_default ys k r d low

-- what a table says of a name
pub kind_by_table : (u : ProgramUnit) (table : Table) (x : List ℕ) → table ≡ table_of (for_names u) → entry_of table.kinds x ≡ kind_there u x
kind_by_table u table x e = ap (λ (t : Table). entry_of t.kinds x) e ∙ found_in_program (for_names u) x

pub argument_kind : (u : ProgramUnit) (table : Table) (a : Option (List ℕ)) → table ≡ table_of (for_names u) → kind_of_argument table a ≡ kind_of_name u a
argument_kind u table None e = refl
argument_kind u table (Some x) e = kind_by_table u table x e

-- the table that is read at a place
pub table_read : (us : ProgramUnits) (tables : List Table) (n : ℕ) (r : Table) → AreTables (all_units us) tables → n < length (all_units us) → get_or tables n r ≡ table_of (for_names (unit_at us n))
table_read us tables n r h low =
    ap (λ (ts : List Table). get_or ts n r) h
    ∙ get_or-map (λ (u : ProgramUnit). table_of (for_names u)) (all_units us) n us.main r low
