-- What a form says of the loops whose index occurs.
use Rattle.std.proofs.Common.{◌≡◌, ℕ, suc, ◌+◌, ◌<◌, ◌≤◌, ℤ, pos, neg_ℤ, List, [], ◌∷◌, length, Bool, true, false, ◌&&◌, ◌||◌, if◌then◌else◌, refl, sym, ap, subst, ◌∙◌, inl, inr, arith}
use Rattle.std.specs.Ordering.{int_eq}
use Rattle.std.proofs.lemmas.Bool.{cases_Bool}
use Rattle.std.proofs.lemmas.Bool.Decides.{Decides-int_eq}
use Rattle.ped_views.specs.Whole.{is_zero}
use Rattle.ped_views.specs.Views.{SubscriptPair}
use Rattle.ped_views.specs.Forms.{Occurrence, occurring, occurrences, has_inner, Form, ziv, strong_siv, weak_zero_siv, weak_crossing_siv, other_form, common_form, form_of}
use Rattle.ped_verdict.specs.declared.forms.Form.{Form as CodeForm}
use Rattle.ped_verdict.specs.declared.forms.Form.TheVariants.{Ziv, Strong, WeakZero, WeakCrossing, Other}
use Rattle.ped_verdict.specs.CodeForms.{occurrence_shown, form_shown, HasOneZero, IsSound}

-- a number that is 0, and one that isn't
pub zero_is : (a : ℤ) → is_zero a ≡ true → a ≡ pos 0
zero_is a t = (Decides-int_eq a (pos 0)).0 t

pub some_is : (a : ℤ) → is_zero a ≡ false → ¬ (a ≡ pos 0)
some_is a f e = let t = (Decides-int_eq a (pos 0)).1 e in cc

pub both : (x y : Bool) → (x && y) ≡ true → (x ≡ true) × (y ≡ true)
both true y t = (refl, t)
both false y t = absurd (cc)

pub neither : (x y : Bool) → (x || y) ≡ false → (x ≡ false) × (y ≡ false)
neither true y t = absurd (cc)
neither false y t = (refl, t)

-- what occurs from a place on, where the loop's index doesn't occur, and where it does
pub occurring-none : (k : ℕ) (a b : ℤ) (source sink : List ℤ) → (is_zero a && is_zero b) ≡ true → occurring k (a ∷ source) (b ∷ sink) ≡ occurring (suc k) source sink
occurring-none k a b source sink z = ap (λ (x : Bool). if x then occurring (suc k) source sink else (record { place = k; at_source = a; at_sink = b }) ∷ occurring (suc k) source sink) z

pub occurring-some : (k : ℕ) (a b : ℤ) (source sink : List ℤ) → (is_zero a && is_zero b) ≡ false → occurring k (a ∷ source) (b ∷ sink) ≡ (record { place = k; at_source = a; at_sink = b }) ∷ occurring (suc k) source sink
occurring-some k a b source sink z = ap (λ (x : Bool). if x then occurring (suc k) source sink else (record { place = k; at_source = a; at_sink = b }) ∷ occurring (suc k) source sink) z

-- a loop whose index occurs: one of its coefficients isn't 0, and it stands in its place
pub record Occurs (k n : ℕ) (o : Occurrence) : Type 0 where
  pub some : (is_zero o.at_source && is_zero o.at_sink) ≡ false
  pub from : k ≤ o.place
  pub to : o.place < k + n

pub occurs : (k : ℕ) (source sink : List ℤ) (o : Occurrence) (os : List Occurrence) → occurring k source sink ≡ o ∷ os → Occurs k (length source) o
occurs k [] sink o os e = absurd (cc)
occurs k (a ∷ source) [] o os e = absurd (cc)
occurs k (a ∷ source) (b ∷ sink) o os e =
    elim (cases_Bool (is_zero a && is_zero b)) [
      | inl z ↦
          let h = occurs (suc k) source sink o os (sym (occurring-none k a b source sink z) ∙ e) in
          let f = h.from in
          let t = h.to in
          record { some = h.some; from = omega arith; to = omega arith }
      | inr z ↦
          let s = occurring-some k a b source sink z in
          let x : (record { place = k; at_source = a; at_sink = b }) ≡ o = cc in
          let p = ap (λ (q : Occurrence). q.place) x in
          record { some = ap (λ (q : Occurrence). is_zero q.at_source && is_zero q.at_sink) (sym x) ∙ z; from = omega arith; to = omega arith }
    ]

-- one common index occurs, and no other
pub record IsOne (p : SubscriptPair) (o : Occurrence) : Type 0 where
  pub no_inner : has_inner p ≡ false
  pub one : occurrences p ≡ o ∷ []

-- what a form says
abbrev pub Facts : Form → SubscriptPair → Type 0
Facts ziv p = (has_inner p ≡ false) × (occurrences p ≡ [])
Facts (strong_siv o) p = IsOne p o × ¬ (o.at_source ≡ pos 0) × (o.at_source ≡ o.at_sink)
Facts (weak_zero_siv o) p = IsOne p o × HasOneZero o.at_source o.at_sink
Facts (weak_crossing_siv o) p = IsOne p o × ¬ (o.at_source ≡ pos 0) × (o.at_source ≡ neg_ℤ o.at_sink)
Facts other_form p = Unit {0}

-- a form by the answers of the tests of its two coefficients: whether they are equal, whether each is 0, whether they are opposite
abbrev by_tests : Bool → Bool → Bool → Bool → Occurrence → Form
by_tests same none_source none_sink opposite o =
    if same then strong_siv o
    else if none_source || none_sink then weak_zero_siv o
    else if opposite then weak_crossing_siv o
    else other_form

module _ (p : SubscriptPair) (o : Occurrence) (one : IsOne p o) (some : (is_zero o.at_source && is_zero o.at_sink) ≡ false) where
  -- of two equal coefficients that aren't both 0 none is
  same_some : o.at_source ≡ o.at_sink → ¬ (o.at_source ≡ pos 0)
  same_some e z =
      let x = (Decides-int_eq o.at_source (pos 0)).1 z in
      let y = (Decides-int_eq o.at_sink (pos 0)).1 (sym e ∙ z) in
      let t : (is_zero o.at_source && is_zero o.at_sink) ≡ true = ap (λ (b : Bool). b && is_zero o.at_sink) x ∙ y in
      cc

  tested : (same none_source none_sink opposite : Bool) → int_eq o.at_source o.at_sink ≡ same → is_zero o.at_source ≡ none_source → is_zero o.at_sink ≡ none_sink → int_eq o.at_source (neg_ℤ o.at_sink) ≡ opposite → Facts (by_tests same none_source none_sink opposite o) p
  tested true x y z s a b c = let e = (Decides-int_eq o.at_source o.at_sink).0 s in (one, same_some e, e)
  tested false true true z s a b c = let t : (is_zero o.at_source && is_zero o.at_sink) ≡ true = ap (λ (w : Bool). w && is_zero o.at_sink) a ∙ b in absurd (cc)
  tested false true false z s a b c = (one, inl (zero_is o.at_source a, some_is o.at_sink b))
  tested false false true z s a b c = (one, inr (some_is o.at_source a, zero_is o.at_sink b))
  tested false false false true s a b c = (one, some_is o.at_source a, (Decides-int_eq o.at_source (neg_ℤ o.at_sink)).0 c)
  tested false false false false s a b c = tt

by_indices : (p : SubscriptPair) (inner : Bool) (os : List Occurrence) → has_inner p ≡ inner → occurrences p ≡ os → Facts (if inner then other_form else common_form os) p
by_indices p true os h e = tt
by_indices p false [] h e = (h, e)
by_indices p false (o ∷ []) h e =
    tested p o (record { no_inner = h; one = e }) (occurs 0 p.source.common p.sink.common o [] e).some
    (int_eq o.at_source o.at_sink) (is_zero o.at_source) (is_zero o.at_sink) (int_eq o.at_source (neg_ℤ o.at_sink)) refl refl refl refl
by_indices p false (o ∷ q ∷ os) h e = tt

pub facts : (p : SubscriptPair) → Facts (form_of p) p
facts p = by_indices p (has_inner p) (occurrences p) refl refl

-- the code's form
pub sound : (p : SubscriptPair) (f : CodeForm) → form_shown f ≡ form_of p → IsSound (length p.source.common) f
sound p f e = by_facts f (subst (λ (g : Form). Facts g p) (sym e) (facts p))
  where
    placed : (o : Occurrence) → IsOne p o → o.place < length p.source.common
    placed o one = let h = occurs 0 p.source.common p.sink.common o [] one.one in let t = h.to in omega arith

    by_facts : (f : CodeForm) → Facts (form_shown f) p → IsSound (length p.source.common) f
    by_facts Ziv h = tt
    by_facts (Strong o) h = (placed (occurrence_shown o) h.0, h.1, h.2)
    by_facts (WeakZero o) h = (placed (occurrence_shown o) h.0, h.1)
    by_facts (WeakCrossing o) h = (placed (occurrence_shown o) h.0, h.1, h.2)
    by_facts Other h = tt
