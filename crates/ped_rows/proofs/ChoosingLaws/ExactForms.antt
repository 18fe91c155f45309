-- What the form of a position says where its tests are exact.
use Rattle.std.proofs.Common.{◌≡◌, ◌⊎◌, ℕ, suc, inl, inr, refl, sym, ap, subst, ◌∙◌, ℤ, pos, neg_ℤ, int_eq, List, [], ◌∷◌, ◌++◌, Bool, true, false, ◌&&◌, ◌||◌, ◌==◌, if◌then◌else◌}
use Rattle.std.specs.List.{AllByRecursion}
use Rattle.std.proofs.lemmas.Bool.{and_parts, eqb-true}
use Rattle.std.proofs.lemmas.Bool.Decides.{Decides-eqb, Decides-int_eq}
use Rattle.ped_laws.specs.ped_graph.specs.ped_views.specs.declared.directions.Direction.{Direction}
use Rattle.ped_laws.specs.ped_graph.specs.ped_views.specs.declared.strong_rows.StrongRow.{StrongRow}
use Rattle.ped_laws.specs.ped_graph.specs.ped_views.specs.Whole.{is_zero}
use Rattle.ped_laws.specs.ped_graph.specs.ped_views.specs.Views.{SubscriptPair, View}
use Rattle.ped_laws.specs.ped_graph.specs.ped_views.specs.Forms.{Form, ziv, strong_siv, weak_zero_siv, weak_crossing_siv, other_form, Occurrence, occurring, occurrences, has_inner, single_form, common_form, form_of}
use Rattle.ped_laws.specs.ped_graph.specs.ped_views.specs.Excluded.{NeverMeetTogether, rows_in, group_of, loop_at, direction_at, FormExcludes, Excludes}
use Rattle.ped_verdict.specs.Exactness.{is_exact_form}

-- one of the coefficients of a loop whose index occurs isn't 0
occurs : (k : ℕ) (cs bs : List ℤ) (o : Occurrence) (os : List Occurrence) → occurring k cs bs ≡ o ∷ os → (is_zero o.at_source && is_zero o.at_sink) ≡ false
occurs k [] bs o os e = absurd cc
occurs k (a ∷ cs) [] o os e = absurd cc
occurs k (a ∷ cs) (b ∷ bs) o os e = go (is_zero a && is_zero b) refl (occurs (suc k) cs bs o os) e
  where
    go : (t : Bool) → (is_zero a && is_zero b) ≡ t → (occurring (suc k) cs bs ≡ o ∷ os → (is_zero o.at_source && is_zero o.at_sink) ≡ false)
        → (if t then occurring (suc k) cs bs else (record { place = k; at_source = a; at_sink = b }) ∷ occurring (suc k) cs bs) ≡ o ∷ os → (is_zero o.at_source && is_zero o.at_sink) ≡ false
    go true z rest f = rest f
    go false z rest f =
        let x : (record { place = k; at_source = a; at_sink = b }) ≡ o = cc in
        ap (λ (q : Occurrence). is_zero q.at_source && is_zero q.at_sink) (sym x) ∙ z

-- no loop's index occurs
pub record IsZiv (p : SubscriptPair) : Type 0 where
  pub inner : has_inner p ≡ false
  pub none : occurrences p ≡ []
  pub form : form_of p ≡ ziv

-- the index of one common loop occurs, with one coefficient on both sides
pub record IsStrong (p : SubscriptPair) : Type 0 where
  pub inner : has_inner p ≡ false
  pub loop : Occurrence
  pub one : occurrences p ≡ loop ∷ []
  pub form : form_of p ≡ strong_siv loop
  pub same : loop.at_source ≡ loop.at_sink
  pub some : ¬ (loop.at_source ≡ pos 0)

abbrev form_by : Occurrence → Bool → Bool → Bool → Form
form_by o b c d = if b then strong_siv o else if c then weak_zero_siv o else if d then weak_crossing_siv o else other_form

-- a form that is exact is one of these two
pub exact_form : (p : SubscriptPair) → is_exact_form (form_of p) ≡ true → IsZiv p ⊎ IsStrong p
exact_form p exact = by_indices (has_inner p) (occurrences p) refl refl
  where
    form_is : (b : Bool) (os : List Occurrence) → has_inner p ≡ b → occurrences p ≡ os → form_of p ≡ (if b then other_form else common_form os)
    form_is b os e f = λ i. if e i then other_form else common_form (f i)

    one_loop : (o : Occurrence) → has_inner p ≡ false → occurrences p ≡ o ∷ [] → form_of p ≡ single_form o → (b c d : Bool) → int_eq o.at_source o.at_sink ≡ b → single_form o ≡ form_by o b c d → IsZiv p ⊎ IsStrong p
    one_loop o e f g true c d same is =
        let equal : o.at_source ≡ o.at_sink = (Decides-int_eq o.at_source o.at_sink).0 same in
        inr (record {
          inner = e;
          loop = o;
          one = f;
          form = g ∙ is;
          same = equal;
          some = λ z.
              let first : is_zero o.at_source ≡ true = (Decides-int_eq o.at_source (pos 0)).1 z in
              let second : is_zero o.at_sink ≡ true = (Decides-int_eq o.at_sink (pos 0)).1 (sym equal ∙ z) in
              let both : (is_zero o.at_source && is_zero o.at_sink) ≡ true = (λ i. first i && second i) in
              let none = occurs 0 p.source.common p.sink.common o [] f in
              absurd cc;
        })
    one_loop o e f g false true d same is = let k = sym exact ∙ ap is_exact_form (g ∙ is) in absurd cc
    one_loop o e f g false false true same is = let k = sym exact ∙ ap is_exact_form (g ∙ is) in absurd cc
    one_loop o e f g false false false same is = let k = sym exact ∙ ap is_exact_form (g ∙ is) in absurd cc

    by_indices : (b : Bool) (os : List Occurrence) → has_inner p ≡ b → occurrences p ≡ os → IsZiv p ⊎ IsStrong p
    by_indices true os e f = let k = sym exact ∙ ap is_exact_form (form_is true os e f) in absurd cc
    by_indices false [] e f = inl (record { inner = e; none = f; form = form_is false [] e f })
    by_indices false (o ∷ []) e f =
        one_loop o e f (form_is false (o ∷ []) e f) (int_eq o.at_source o.at_sink) (is_zero o.at_source || is_zero o.at_sink) (int_eq o.at_source (neg_ℤ o.at_sink)) refl refl
    by_indices false (o ∷ (q ∷ os)) e f = let k = sym exact ∙ ap is_exact_form (form_is false (o ∷ (q ∷ os)) e f) in absurd cc

-- a position that is strong SIV has a coefficient other than 0
strong_some : (p : SubscriptPair) (o : Occurrence) → form_of p ≡ strong_siv o → ¬ (o.at_source ≡ pos 0)
strong_some p o e = elim (exact_form p (ap is_exact_form e)) [
  | inl z ↦ (let f = sym z.form ∙ e in absurd cc)
  | inr s ↦
      let f : strong_siv s.loop ≡ strong_siv o = sym s.form ∙ e in
      let g : s.loop ≡ o = cc in
      subst (λ (q : Occurrence). ¬ (q.at_source ≡ pos 0)) g s.some
]

-- what is so of all rows of a group is so of those of each position
pub rows_of_group : (P : StrongRow → Type 0) (k : ℕ) (p : SubscriptPair) (ps : List SubscriptPair) → AllByRecursion P (group_of k (p ∷ ps)) → AllByRecursion P (rows_in k (form_of p) p) × AllByRecursion P (group_of k ps)
rows_of_group P k p ps h = parted (rows_in k (form_of p) p) (group_of k ps) h
  where
    parted : (xs ys : List StrongRow) → AllByRecursion P (xs ++ ys) → AllByRecursion P xs × AllByRecursion P ys
    parted [] ys h = (tt, h)
    parted (x ∷ xs) ys h = let w = parted xs ys h.1 in ((h.0, w.0), w.1)

-- the row of a position that is strong SIV is one of its loop's group
pub own_row : (P : StrongRow → Type 0) (p : SubscriptPair) (s : IsStrong p) → p.usable ≡ true → AllByRecursion P (rows_in s.loop.place (form_of p) p) → P (record { a = s.loop.at_source; c1 = p.source.constant; c2 = p.sink.constant })
own_row P p s usable h = (subst (λ (b : Bool). AllByRecursion P (if b then row ∷ [] else [])) here (subst (λ (f : Form). AllByRecursion P (rows_in s.loop.place f p)) s.form h)).0
  where
    row : StrongRow
    row = record { a = s.loop.at_source; c1 = p.source.constant; c2 = p.sink.constant }

    here : (p.usable && s.loop.place == s.loop.place) ≡ true
    here = λ i. usable i && (Decides-eqb s.loop.place s.loop.place).1 refl i

-- where no position excludes the vector, a group that has rows doesn't exclude its direction
module _ (v : View) (vector : List Direction) (k : ℕ) where
  abbrev pub Never : Type 0
  Never = NeverMeetTogether (group_of k v.positions) (loop_at v k) (direction_at vector k)

  -- the row has a coefficient other than 0, and some values meet
  abbrev pub Meets : StrongRow → Type 0
  Meets row = ¬ (row.a ≡ pos 0) × ¬ Never

  pub group_meets : (ps : List SubscriptPair) (row : StrongRow) (rows : List StrongRow) → AllByRecursion (λ p. ¬ (Excludes v p vector)) ps → group_of k ps ≡ row ∷ rows → Meets row
  group_meets [] row rows possible e = absurd cc
  group_meets (p ∷ ps) row rows possible e = by (form_of p) refl (group_meets ps row rows possible.1) e
    where
      own : (o : Occurrence) → form_of p ≡ strong_siv o → (b : Bool) → (p.usable && o.place == k) ≡ b → (group_of k ps ≡ row ∷ rows → Meets row) → (if b then (record { a = o.at_source; c1 = p.source.constant; c2 = p.sink.constant }) ∷ [] else []) ++ group_of k ps ≡ row ∷ rows → Meets row
      own o f false g rest h = rest h
      own o f true g rest h =
          let parts = and_parts p.usable (o.place == k) g in
          let first : (record { a = o.at_source; c1 = p.source.constant; c2 = p.sink.constant }) ≡ row = cc in (
            subst (λ (z : StrongRow). ¬ (z.a ≡ pos 0)) first (strong_some p o f),
            λ never. possible.0 (
              parts.0,
              subst (λ (z : Form). FormExcludes z v p vector) (sym f)
                  (subst (λ (n : ℕ). NeverMeetTogether (group_of n v.positions) (loop_at v n) (direction_at vector n)) (sym (eqb-true o.place k parts.1)) never),
            ),
          )

      by : (f : Form) → form_of p ≡ f → (group_of k ps ≡ row ∷ rows → Meets row) → rows_in k f p ++ group_of k ps ≡ row ∷ rows → Meets row
      by ziv g rest h = rest h
      by (weak_zero_siv o) g rest h = rest h
      by (weak_crossing_siv o) g rest h = rest h
      by other_form g rest h = rest h
      by (strong_siv o) g rest h = own o g (p.usable && o.place == k) refl rest h
