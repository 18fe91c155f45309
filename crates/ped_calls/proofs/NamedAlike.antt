-- Names of a unit that get their meanings one by one, literals of named constants among them, as they do where the literals of all constants came first.
use Rattle.std.proofs.Common.{◌≡◌, ◌⊎◌, inl, inr, ℕ, ℤ, List, [], ◌∷◌, ◌++◌, Bool, true, false, ◌||◌, Option, Some, None, is_some, refl, sym, ap, subst, ◌∙◌, if◌then◌else◌}
use Rattle.ped_base.specs.Lists.{is_same_text, is_among}
use Rattle.ped_base.proofs.NameEquality.{same_is, same_itself}
use Rattle.ped_tree.specs.Tree.{ExprTree, Var}
use Rattle.ped_tree.specs.Constants.NamedConstants.{value_named}
use Rattle.ped_links.specs.ped_units.specs.ped_symbolic.specs.Arithmetic.{literal}
use Rattle.ped_links.specs.ped_symbols.specs.declared.symbols.Kind.{Kind}
use Rattle.ped_links.specs.ped_symbols.specs.Entries.{entry_of, with_entry}
use Rattle.ped_links.specs.ped_symbols.specs.Kinds.{kind_in}
use Rattle.ped_links.specs.ped_symbols.specs.Values.{Values}
use Rattle.ped_links.specs.ped_units.specs.Units.{ProgramUnit}
use Rattle.ped_links.specs.ped_units.specs.Refusals.{for_names}
use Rattle.ped_links.specs.ped_units.specs.Expanding.{Given, Meanings, Renamed, free_name, with_local, with_renamed, renamed, with_constants, constants_of}
use Rattle.ped_calls.specs.Binding.{StandAlike, with_named, named_one}

-- what stands first
abbrev or_else : Option ExprTree → Option ExprTree → Option ExprTree
or_else (Some e) o = Some e
or_else None o = o

or_none : (a : Option ExprTree) → or_else a None ≡ a
or_none None = refl
or_none (Some e) = refl

or_else_assoc : (a b c : Option ExprTree) → or_else (or_else a b) c ≡ or_else a (or_else b c)
or_else_assoc None b c = refl
or_else_assoc (Some e) b c = refl

-- the literal of a value
abbrev literal_of : Option ℤ → Option ExprTree
literal_of (Some n) = Some (literal n)
literal_of None = None

-- an entry of this name, where the names are the same
abbrev entry_if : Bool → ExprTree → Option ExprTree
entry_if t v = if t then Some v else None

-- entries in two lists
entry_append : (a b : Meanings) (y : List ℕ) → entry_of (a ++ b) y ≡ or_else (entry_of a y) (entry_of b y)
entry_append [] b y = refl
entry_append (p ∷ a) b y = by (is_same_text y p.0) (entry_append a b y)
  where
    by : (t : Bool) → entry_of (a ++ b) y ≡ or_else (entry_of a y) (entry_of b y) → (if t then Some p.1 else entry_of (a ++ b) y) ≡ or_else (if t then Some p.1 else entry_of a y) (entry_of b y)
    by true more = refl
    by false more = more

-- with one more entry
entry_with : (m : Meanings) (x : List ℕ) (v : ExprTree) (y : List ℕ) → entry_of (with_entry m x v) y ≡ or_else (entry_of m y) (entry_if (is_same_text y x) v)
entry_with m x v y = by (entry_of m x) refl (is_same_text y x) refl
  where
    by : (o : Option ExprTree) → entry_of m x ≡ o → (t : Bool) → is_same_text y x ≡ t → entry_of (with_entry m x v) y ≡ or_else (entry_of m y) (entry_if (is_same_text y x) v)
    by None h t k = ap (λ (o : Option ExprTree). entry_of (if is_some o then m else m ++ (x, v) ∷ []) y) h ∙ entry_append m ((x, v) ∷ []) y
    by (Some e) h true k =
        let there : entry_of m y ≡ Some e = ap (entry_of m) (same_is y x k) ∙ h in
        ap (λ (o : Option ExprTree). entry_of (if is_some o then m else m ++ (x, v) ∷ []) y) h
        ∙ there ∙ sym (ap (λ (o : Option ExprTree). or_else o (entry_if (is_same_text y x) v)) there)
    by (Some e) h false k =
        ap (λ (o : Option ExprTree). entry_of (if is_some o then m else m ++ (x, v) ∷ []) y) h
        ∙ sym (or_none (entry_of m y)) ∙ sym (ap (λ (t : Bool). or_else (entry_of m y) (entry_if t v)) k)

-- with the literals of named constants behind
entry_constants : (vs : Values) (m : Meanings) (y : List ℕ) → entry_of (with_constants m vs) y ≡ or_else (entry_of m y) (literal_of (value_named vs y))
entry_constants [] m y = sym (or_none (entry_of m y))
entry_constants (v ∷ vs) m y =
    entry_constants vs (with_entry m v.0 (literal v.1)) y
    ∙ ap (λ (o : Option ExprTree). or_else o (literal_of (value_named vs y))) (entry_with m v.0 (literal v.1) y)
    ∙ or_else_assoc (entry_of m y) (entry_if (is_same_text y v.0) (literal v.1)) (literal_of (value_named vs y))
    ∙ ap (or_else (entry_of m y)) (by (is_same_text y v.0))
  where
    by : (t : Bool) → or_else (entry_if t (literal v.1)) (literal_of (value_named vs y)) ≡ literal_of (if t then Some v.1 else value_named vs y)
    by true = refl
    by false = refl

-- the same is given, and what stands for a name is what was entered, or its literal
pub record IsNamedAs (constants : Values) (now plain : Renamed) : Type 0 where
  pub given : now.given ≡ plain.given
  pub meant : (y : List ℕ) → entry_of plain.meanings y ≡ or_else (entry_of now.meanings y) (literal_of (value_named constants y))

-- a name got its meaning
abbrev pub HasMeaning : Renamed → List ℕ → Type 0
HasMeaning r y = is_some (entry_of r.meanings y) ≡ true

-- the names that are left, after those before them got their meanings, come to what all names come to from the start
pub record NamesOn (u : ProgramUnit) (all : List (List ℕ)) (first : Renamed) (left : List (List ℕ)) (now : Renamed) : Type 0 where
  pub plain : Renamed
  pub on : renamed u left plain ≡ renamed u all first
  pub named : IsNamedAs (constants_of u) now plain
  pub done : (y : List ℕ) → is_among y all ≡ true → (is_among y left ≡ true) ⊎ HasMeaning now y

-- before the first name
abbrev pub with_literals : ProgramUnit → Meanings → Given → Renamed
with_literals u m g = record { meanings = with_constants m (constants_of u); given = g }

pub names_first : (u : ProgramUnit) (all : List (List ℕ)) (m : Meanings) (g : Given) → NamesOn u all (with_literals u m g) all (record { meanings = m; given = g })
names_first u all m g = record {
  plain = with_literals u m g;
  on = refl;
  named = record { given = refl; meant = entry_constants (constants_of u) m };
  done = λ y h. inl h;
}

-- a name more
module _ (u : ProgramUnit) (all : List (List ℕ)) (first : Renamed) (x : List ℕ) (rest : List (List ℕ)) (now : Renamed) (before : NamesOn u all first (x ∷ rest) now) where
  abbrev kind : Option Kind
  kind = kind_in (for_names u) x

  abbrev value : List ℕ → Option ℤ
  value = value_named (constants_of u)

  -- names that have a meaning keep it, and the first one gets one
  done_by : (next : Renamed) → HasMeaning next x → ((y : List ℕ) → HasMeaning now y → HasMeaning next y) → (y : List ℕ) → is_among y all ≡ true → (is_among y rest ≡ true) ⊎ HasMeaning next y
  done_by next here kept y h = by (is_same_text y x) refl (before.done y h)
    where
      by : (t : Bool) → is_same_text y x ≡ t → ((is_same_text y x || is_among y rest) ≡ true) ⊎ HasMeaning now y → (is_among y rest ≡ true) ⊎ HasMeaning next y
      by t e (inr k) = inr (kept y k)
      by true e (inl k) = inr (subst (HasMeaning next) (sym (same_is y x e)) here)
      by false e (inl k) = inl (sym (ap (λ (t : Bool). t || is_among y rest) e) ∙ k)

  -- where something stands for the name
  plain_stays : is_some (entry_of before.plain.meanings x) ≡ true → renamed u rest before.plain ≡ renamed u all first
  plain_stays h = sym (ap (λ (t : Bool). renamed u rest (if t then before.plain else with_renamed x kind before.plain)) h) ∙ before.on

  plain_goes : is_some (entry_of before.plain.meanings x) ≡ false → renamed u rest (with_renamed x kind before.plain) ≡ renamed u all first
  plain_goes h = sym (ap (λ (t : Bool). renamed u rest (if t then before.plain else with_renamed x kind before.plain)) h) ∙ before.on

  -- what was entered, with one more
  abbrev entered : ExprTree → Given → Renamed
  entered v g = record { meanings = with_entry now.meanings x v; given = g }

  entered_here : (v : ExprTree) (g : Given) → entry_of now.meanings x ≡ None → HasMeaning (entered v g) x
  entered_here v g h = ap (λ (o : Option ExprTree). is_some o) (entry_with now.meanings x v x ∙ ap (λ (o : Option ExprTree). or_else o (entry_if (is_same_text x x) v)) h) ∙ itself (is_same_text x x) (same_itself x)
    where
      itself : (t : Bool) → t ≡ true → is_some (entry_if t v) ≡ true
      itself true e = refl
      itself false e = absurd cc

  entered_kept : (v : ExprTree) (g : Given) (y : List ℕ) → HasMeaning now y → HasMeaning (entered v g) y
  entered_kept v g y h = ap (λ (o : Option ExprTree). is_some o) (entry_with now.meanings x v y) ∙ by (entry_of now.meanings y) h
    where
      by : (o : Option ExprTree) → is_some o ≡ true → is_some (or_else o (entry_if (is_same_text y x) v)) ≡ true
      by (Some e) k = refl
      by None k = absurd cc

  -- something stood for it
  stood : (e : ExprTree) → entry_of now.meanings x ≡ Some e → NamesOn u all first rest now
  stood e h = record {
    plain = before.plain;
    on = plain_stays (ap (λ (o : Option ExprTree). is_some o) (before.named.meant x ∙ ap (λ (o : Option ExprTree). or_else o (literal_of (value x))) h));
    named = before.named;
    done = done_by now (ap (λ (o : Option ExprTree). is_some o) h) (λ y k. k);
  }

  -- it is a named constant
  constant : (n : ℤ) → entry_of now.meanings x ≡ None → value x ≡ Some n → NamesOn u all first rest (entered (literal n) now.given)
  constant n h k = record {
    plain = before.plain;
    on = plain_stays (ap (λ (o : Option ExprTree). is_some o) (before.named.meant x ∙ ap (λ (o : Option ExprTree). or_else o (literal_of (value x))) h ∙ ap literal_of k));
    named = record {
      given = before.named.given;
      meant = λ y.
          before.named.meant y
          ∙ ap (or_else (entry_of now.meanings y)) (by y (is_same_text y x) refl)
          ∙ sym (or_else_assoc (entry_of now.meanings y) (entry_if (is_same_text y x) (literal n)) (literal_of (value y)))
          ∙ sym (ap (λ (o : Option ExprTree). or_else o (literal_of (value y))) (entry_with now.meanings x (literal n) y));
    };
    done = done_by (entered (literal n) now.given) (entered_here (literal n) now.given h) (entered_kept (literal n) now.given);
  }
    where
      by : (y : List ℕ) (t : Bool) → is_same_text y x ≡ t → literal_of (value y) ≡ or_else (entry_if (is_same_text y x) (literal n)) (literal_of (value y))
      by y true e =
          ap (λ (z : List ℕ). literal_of (value z)) (same_is y x e) ∙ ap literal_of k
          ∙ sym (ap (λ (t : Bool). or_else (entry_if t (literal n)) (literal_of (value y))) e)
      by y false e = sym (ap (λ (t : Bool). or_else (entry_if t (literal n)) (literal_of (value y))) e)

  -- it gets a new name
  variable : entry_of now.meanings x ≡ None → value x ≡ None → NamesOn u all first rest (with_renamed x kind now)
  variable h k = record {
    plain = with_renamed x kind before.plain;
    on = plain_goes (ap (λ (o : Option ExprTree). is_some o) (before.named.meant x ∙ ap (λ (o : Option ExprTree). or_else o (literal_of (value x))) h ∙ ap literal_of k));
    named = record {
      given = ap (λ (g : Given). with_local g kind) before.named.given;
      meant = λ y.
          entry_with before.plain.meanings x old y
          ∙ ap (λ (o : Option ExprTree). or_else o (entry_if (is_same_text y x) old)) (before.named.meant y)
          ∙ or_else_assoc (entry_of now.meanings y) (literal_of (value y)) (entry_if (is_same_text y x) old)
          ∙ ap (or_else (entry_of now.meanings y)) (by y (is_same_text y x) refl)
          ∙ sym (or_else_assoc (entry_of now.meanings y) (entry_if (is_same_text y x) new) (literal_of (value y)))
          ∙ sym (ap (λ (o : Option ExprTree). or_else o (literal_of (value y))) (entry_with now.meanings x new y));
    };
    done = done_by (entered new (with_local now.given kind)) (entered_here new (with_local now.given kind) h) (entered_kept new (with_local now.given kind));
  }
    where
      old : ExprTree
      old = Var (free_name before.plain.given.taken)

      new : ExprTree
      new = Var (free_name now.given.taken)

      by : (y : List ℕ) (t : Bool) → is_same_text y x ≡ t → or_else (literal_of (value y)) (entry_if (is_same_text y x) old) ≡ or_else (entry_if (is_same_text y x) new) (literal_of (value y))
      by y true e =
          let none : value y ≡ None = ap value (same_is y x e) ∙ k in
          (λ i. or_else (literal_of (none i)) (entry_if (e i) (Var (free_name (sym before.named.given i).taken))))
          ∙ sym (λ i. or_else (entry_if (e i) new) (literal_of (none i)))
      by y false e =
          ap (λ (t : Bool). or_else (literal_of (value y)) (entry_if t old)) e ∙ or_none (literal_of (value y))
          ∙ sym (ap (λ (t : Bool). or_else (entry_if t new) (literal_of (value y))) e)

  by_meaning : (next : Renamed) (o : Option ExprTree) (v : Option ℤ) → entry_of now.meanings x ≡ o → value x ≡ v → next ≡ (if is_some o then now else with_named x v kind now) → NamesOn u all first rest next
  by_meaning next (Some e) v h k is = subst (NamesOn u all first rest) (sym is) (stood e h)
  by_meaning next None (Some n) h k is = subst (NamesOn u all first rest) (sym is) (constant n h k)
  by_meaning next None None h k is = subst (NamesOn u all first rest) (sym is) (variable h k)

pub names_more : (u : ProgramUnit) (all : List (List ℕ)) (first : Renamed) (left : List (List ℕ)) (x : List ℕ) (rest : List (List ℕ)) (now next : Renamed) → NamesOn u all first left now → left ≡ x ∷ rest
    → next ≡ named_one (constants_of u) x (kind_in (for_names u) x) now → NamesOn u all first rest next
names_more u all first left x rest now next before is step =
    by_meaning u all first x rest now (subst (λ (names : List (List ℕ)). NamesOn u all first names now) is before) next (entry_of now.meanings x) (value_named (constants_of u) x) refl refl step

-- behind the last
pub names_last : (u : ProgramUnit) (all : List (List ℕ)) (first : Renamed) (left : List (List ℕ)) (now : Renamed) → NamesOn u all first left now → left ≡ [] → StandAlike all now.meanings (renamed u all first).meanings
names_last u all first left now names none x h =
    let ended : names.plain ≡ renamed u all first = sym (ap (λ (xs : List (List ℕ)). renamed u xs names.plain) none) ∙ names.on in
    by (entry_of now.meanings x) refl (names.done x h)
    ∙ ap (λ (r : Renamed). entry_of r.meanings x) ended
  where
    by : (o : Option ExprTree) → entry_of now.meanings x ≡ o → (is_among x left ≡ true) ⊎ HasMeaning now x → entry_of now.meanings x ≡ entry_of names.plain.meanings x
    by (Some e) k d = k ∙ sym (names.named.meant x ∙ ap (λ (o : Option ExprTree). or_else o (literal_of (value_named (constants_of u) x))) k)
    by None k (inl d) = let out : false ≡ true = ap (is_among x) (sym none) ∙ d in absurd cc
    by None k (inr d) = let out : false ≡ true = sym (ap (λ (o : Option ExprTree). is_some o) k) ∙ d in absurd cc

pub given_last : (u : ProgramUnit) (all : List (List ℕ)) (first : Renamed) (left : List (List ℕ)) (now : Renamed) → NamesOn u all first left now → left ≡ [] → now.given ≡ (renamed u all first).given
given_last u all first left now names none =
    names.named.given ∙ ap (λ (r : Renamed). r.given) (sym (ap (λ (xs : List (List ℕ)). renamed u xs names.plain) none) ∙ names.on)
