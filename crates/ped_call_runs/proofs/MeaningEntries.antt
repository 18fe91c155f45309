-- What stands for a name: entries that are made, and entries that stay.
use Rattle.std.proofs.Common.{◌≡◌, ℕ, ℤ, List, [], ◌∷◌, ◌++◌, Bool, true, false, ◌||◌, Option, Some, None, is_some, refl, sym, ap, ◌∙◌, subst, if◌then◌else◌}
use Rattle.ped_base.specs.Lists.{is_same_text, is_among}
use Rattle.ped_base.proofs.NameEquality.{same_is, same_itself}
use Rattle.ped_tree.specs.Tree.{ExprTree, Var}
use Rattle.ped_tree.specs.Constants.NamedConstants.{value_named}
use Rattle.ped_steps.specs.ped_symbolic.specs.Arithmetic.{literal}
use Rattle.ped_steps.specs.ped_symbols.specs.Entries.{entry_of, with_entry}
use Rattle.ped_steps.specs.ped_symbols.specs.Values.{Values}
use Rattle.ped_calls.specs.ped_units.specs.Expanding.{Meanings, with_formals, with_constants}
use Rattle.ped_call_runs.specs.UnitRuns.{own, with_own}

-- an entry stays where others are put behind it
pub entry_stays : (es fs : Meanings) (x : List ℕ) (e : ExprTree) → entry_of es x ≡ Some e → entry_of (es ++ fs) x ≡ Some e
entry_stays [] fs x e h = absurd cc
entry_stays (p ∷ es) fs x e h = go (is_same_text x p.0) refl (entry_stays es fs x e)
  where
    go : (t : Bool) → is_same_text x p.0 ≡ t → (entry_of es x ≡ Some e → entry_of (es ++ fs) x ≡ Some e) → (if is_same_text x p.0 then Some p.1 else entry_of (es ++ fs) x) ≡ Some e
    go true k more = ap (λ (t : Bool). if t then Some p.1 else entry_of (es ++ fs) x) k ∙ sym (ap (λ (t : Bool). if t then Some p.1 else entry_of es x) k) ∙ h
    go false k more = ap (λ (t : Bool). if t then Some p.1 else entry_of (es ++ fs) x) k ∙ more (sym (ap (λ (t : Bool). if t then Some p.1 else entry_of es x) k) ∙ h)

-- where there is none, that behind counts
pub entry_follows : (es fs : Meanings) (x : List ℕ) → entry_of es x ≡ None → entry_of (es ++ fs) x ≡ entry_of fs x
entry_follows [] fs x h = refl
entry_follows (p ∷ es) fs x h = go (is_same_text x p.0) refl (entry_follows es fs x)
  where
    go : (t : Bool) → is_same_text x p.0 ≡ t → (entry_of es x ≡ None → entry_of (es ++ fs) x ≡ entry_of fs x) → (if is_same_text x p.0 then Some p.1 else entry_of (es ++ fs) x) ≡ entry_of fs x
    go true k more = let z : Some p.1 ≡ None = sym (ap (λ (t : Bool). if t then Some p.1 else entry_of es x) k) ∙ h in absurd cc
    go false k more = ap (λ (t : Bool). if t then Some p.1 else entry_of (es ++ fs) x) k ∙ more (sym (ap (λ (t : Bool). if t then Some p.1 else entry_of es x) k) ∙ h)

-- with one more
pub kept_entry : (m : Meanings) (x : List ℕ) (v : ExprTree) (y : List ℕ) (e : ExprTree) → entry_of m y ≡ Some e → entry_of (with_entry m x v) y ≡ Some e
kept_entry m x v y e h = go (is_some (entry_of m x))
  where
    go : (t : Bool) → entry_of (if t then m else m ++ (x, v) ∷ []) y ≡ Some e
    go true = h
    go false = entry_stays m ((x, v) ∷ []) y e h

pub new_entry : (m : Meanings) (x : List ℕ) (v : ExprTree) → entry_of m x ≡ None → entry_of (with_entry m x v) x ≡ Some v
new_entry m x v h =
    ap (λ (o : Option ExprTree). entry_of (if is_some o then m else m ++ (x, v) ∷ []) x) h
    ∙ entry_follows m ((x, v) ∷ []) x h
    ∙ ap (λ (t : Bool). if t then Some v else None) (same_itself x)

pub other_entry : (m : Meanings) (x : List ℕ) (v : ExprTree) (y : List ℕ) → is_same_text y x ≡ false → entry_of m y ≡ None → entry_of (with_entry m x v) y ≡ None
other_entry m x v y k h = go (is_some (entry_of m x))
  where
    go : (t : Bool) → entry_of (if t then m else m ++ (x, v) ∷ []) y ≡ None
    go true = h
    go false = entry_follows m ((x, v) ∷ []) y h ∙ ap (λ (t : Bool). if t then Some v else None) k

-- names of a CALL's own
pub own_kept : (n : ℕ) (xs : List (List ℕ)) (m : Meanings) (y : List ℕ) (e : ExprTree) → entry_of m y ≡ Some e → entry_of (with_own n m xs) y ≡ Some e
own_kept n [] m y e h = h
own_kept n (x ∷ xs) m y e h = own_kept n xs (with_entry m x (Var (own n x))) y e (kept_entry m x (Var (own n x)) y e h)

pub own_entry : (n : ℕ) (xs : List (List ℕ)) (m : Meanings) (y : List ℕ) → entry_of m y ≡ None → is_among y xs ≡ true → entry_of (with_own n m xs) y ≡ Some (Var (own n y))
own_entry n [] m y h k = absurd cc
own_entry n (x ∷ xs) m y h k = go (is_same_text y x) refl (own_entry n xs (with_entry m x (Var (own n x))) y)
  where
    go : (t : Bool) → is_same_text y x ≡ t → (entry_of (with_entry m x (Var (own n x))) y ≡ None → is_among y xs ≡ true → entry_of (with_own n (with_entry m x (Var (own n x))) xs) y ≡ Some (Var (own n y)))
        → entry_of (with_own n (with_entry m x (Var (own n x))) xs) y ≡ Some (Var (own n y))
    go true e more =
        let same : y ≡ x = same_is y x e in
        own_kept n xs (with_entry m x (Var (own n x))) y (Var (own n y))
        (subst (λ (z : List ℕ). entry_of (with_entry m z (Var (own n z))) y ≡ Some (Var (own n y))) same (new_entry m y (Var (own n y)) h))
    go false e more = more (other_entry m x (Var (own n x)) y e h) (sym (ap (λ (t : Bool). t || is_among y xs) e) ∙ k)

-- named constants
pub constants_kept : (vs : Values) (m : Meanings) (y : List ℕ) (e : ExprTree) → entry_of m y ≡ Some e → entry_of (with_constants m vs) y ≡ Some e
constants_kept [] m y e h = h
constants_kept (v ∷ vs) m y e h = constants_kept vs (with_entry m v.0 (literal v.1)) y e (kept_entry m v.0 (literal v.1) y e h)

-- a name that is no dummy argument has its literal where it is a named constant, and else nothing
abbrev pub of_constant : Option ℤ → Option ExprTree
of_constant (Some n) = Some (literal n)
of_constant None = None

pub constants_entry : (vs : Values) (m : Meanings) (y : List ℕ) → entry_of m y ≡ None → entry_of (with_constants m vs) y ≡ of_constant (value_named vs y)
constants_entry [] m y h = h
constants_entry (v ∷ vs) m y h = go (is_same_text y v.0) refl (constants_entry vs (with_entry m v.0 (literal v.1)) y)
  where
    go : (t : Bool) → is_same_text y v.0 ≡ t → (entry_of (with_entry m v.0 (literal v.1)) y ≡ None → entry_of (with_constants (with_entry m v.0 (literal v.1)) vs) y ≡ of_constant (value_named vs y))
        → entry_of (with_constants (with_entry m v.0 (literal v.1)) vs) y ≡ of_constant (if is_same_text y v.0 then Some v.1 else value_named vs y)
    go true e more =
        let same : y ≡ v.0 = same_is y v.0 e in
        constants_kept vs (with_entry m v.0 (literal v.1)) y (literal v.1)
        (subst (λ (z : List ℕ). entry_of (with_entry m z (literal v.1)) y ≡ Some (literal v.1)) same (new_entry m y (literal v.1) h))
        ∙ sym (ap (λ (t : Bool). of_constant (if t then Some v.1 else value_named vs y)) e)
    go false e more = more (other_entry m v.0 (literal v.1) y e h) ∙ sym (ap (λ (t : Bool). of_constant (if t then Some v.1 else value_named vs y)) e)

-- dummy arguments: none of another name
pub formals_kept : (fs : List (List ℕ)) (es : List ExprTree) (m : Meanings) (y : List ℕ) (e : ExprTree) → entry_of m y ≡ Some e → entry_of (with_formals m fs es) y ≡ Some e
formals_kept [] es m y e h = h
formals_kept (f ∷ fs) [] m y e h = h
formals_kept (f ∷ fs) (a ∷ es) m y e h = formals_kept fs es (with_entry m f a) y e (kept_entry m f a y e h)

pub no_formal : (fs : List (List ℕ)) (es : List ExprTree) (m : Meanings) (y : List ℕ) → is_among y fs ≡ false → entry_of m y ≡ None → entry_of (with_formals m fs es) y ≡ None
no_formal [] es m y k h = h
no_formal (f ∷ fs) [] m y k h = h
no_formal (f ∷ fs) (a ∷ es) m y k h =
    let parts = neither (is_same_text y f) (is_among y fs) k in
    no_formal fs es (with_entry m f a) y parts.1 (other_entry m f a y parts.0 h)
  where
    neither : (a b : Bool) → a || b ≡ false → (a ≡ false) × (b ≡ false)
    neither true b h = absurd cc
    neither false b h = (refl, h)
