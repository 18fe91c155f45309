-- The exit of a PARALLEL DO that makes other names undefined stands for the old one, where nobody asks for what these names stand for.
use Rattle.std.proofs.Common.{◌≡◌, ℕ, List, [], ◌∷◌, ◌++◌, Bool, true, false, ◌⊎◌, inl, inr, refl, sym, ap, subst, ◌∙◌}
use Rattle.std.proofs.lemmas.Bool.{both_ways}
use Rattle.std.proofs.lemmas.List.{append-nil}
use Rattle.std.proofs.lemmas.List.Folds.{list_any-append}
use Rattle.ped_bodies.specs.ped_flow.specs.ped_base.specs.Lists.{is_same_text, is_among}
use Rattle.ped_bodies.specs.ped_flow.specs.ped_base.proofs.NameEquality.{same_is}
use Rattle.ped_bodies.specs.ped_flow.specs.ped_tree.specs.Tree.{ProgramTree}
use Rattle.ped_bodies.specs.ped_store.specs.Cells.{Cell, same_cell}
use Rattle.ped_bodies.specs.ped_store.specs.Stores.{Undefined, Store, put}
use Rattle.ped_bodies.specs.ped_store.specs.Acts.{Touch, Place, Act, store_behind}
use Rattle.ped_bodies.specs.ped_laws.specs.Acts.Fitting.{Find, Fits, store_after}
use Rattle.ped_bodies.specs.ped_laws.specs.Acts.Pieces.{StandsFor}
use Rattle.ped_bodies.specs.ped_laws.specs.Acts.Sets.{AgreeIn, writes_to, written_by, written}
use Rattle.ped_bodies.specs.ped_laws.specs.Runs.Replaying.{act}
use Rattle.ped_bodies.specs.ped_eval.specs.Scopes.{Setting, Scope, cell_of, place_of}
use Rattle.ped_bodies.specs.ped_eval.specs.Loops.{undefined_all}
use Rattle.ped_bodies.specs.ped_laws.proofs.ActLaws.Renamings.{or_either, agreeing_fits, agreeing_leaves}
use Rattle.ped_bodies.specs.ped_laws.proofs.ActLaws.SameCells.{cell_itself, cell_is}
use Rattle.ped_bodies.specs.ped_laws.proofs.ActLaws.Stores.{put_same, put_other, behind_append, find_append, find_first, fits_first, fits_rest}
use Rattle.ped_bodies.specs.ped_laws.proofs.RunLaws.StatementsTold.{all_told}
use Rattle.ped_loop_runs.specs.Meaning.{SuitEnds}
use Rattle.ped_loop_runs.specs.OtherCopies.{IsOtherExit, AskNothing}
use Rattle.ped_loop_runs.proofs.PastingLaws.NearPlaces.{first_among, rest_among, named_same}

-- one of the names that stands for the cell at the place
abbrev IsNamedAmong : Scope → List (List ℕ) → Cell → Type 0
IsNamedAmong S xs c = (x : List ℕ) × (is_among x xs ≡ true) × (cell_of S x ≡ c)

none_among : (S : Scope) (c : Cell) → IsNamedAmong S [] c → ⊥
none_among S c h = both_ways false refl h.1

-- what a cell holds behind such touches: it is undefined where one of the names stands for it, and else it holds what it held
undefined_behind : (S : Scope) (xs : List (List ℕ)) (w : Store) (c : Cell) → (IsNamedAmong S xs c × (store_behind (undefined_all S xs) w c ≡ Undefined)) ⊎ ((IsNamedAmong S xs c → ⊥) × (store_behind (undefined_all S xs) w c ≡ w c))
undefined_behind S [] w c = inr (none_among S c, refl)
undefined_behind S (y ∷ ys) w c = by (same_cell (cell_of S y) c) refl (undefined_behind S ys (put (cell_of S y) Undefined w) c)
  where
    by : (b : Bool) → same_cell (cell_of S y) c ≡ b → (IsNamedAmong S ys c × (store_behind (undefined_all S ys) (put (cell_of S y) Undefined w) c ≡ Undefined)) ⊎ ((IsNamedAmong S ys c → ⊥) × (store_behind (undefined_all S ys) (put (cell_of S y) Undefined w) c ≡ put (cell_of S y) Undefined w c))
        → (IsNamedAmong S (y ∷ ys) c × (store_behind (undefined_all S (y ∷ ys)) w c ≡ Undefined)) ⊎ ((IsNamedAmong S (y ∷ ys) c → ⊥) × (store_behind (undefined_all S (y ∷ ys)) w c ≡ w c))
    by b e (inl r) = inl ((r.0.0, rest_among r.0.0 y ys r.0.1, r.0.2), r.1)
    by true e (inr r) = inl ((y, first_among y ys, cell_is (cell_of S y) c e), r.1 ∙ put_same (cell_of S y) Undefined w c e)
    by false e (inr r) = inr (other, r.1 ∙ put_other (cell_of S y) Undefined w c e)
      where
        other : IsNamedAmong S (y ∷ ys) c → ⊥
        other h = elim (or_either (is_same_text h.0 y) (is_among h.0 ys) h.1) [
          | inl same ↦ both_ways (same_cell (cell_of S y) c) e (ap (λ (z : List ℕ). same_cell (cell_of S z) c) (sym (same_is h.0 y same)) ∙ (ap (λ (d : Cell). same_cell d c) h.2 ∙ cell_itself c))
          | inr more ↦ r.0 (h.0, more, h.2)
        ]

find_undefined : (S : Scope) (xs : List (List ℕ)) (w : Store) → Find (undefined_all S xs) w
find_undefined S [] w = tt
find_undefined S (x ∷ xs) w = (tt, find_undefined S xs (put (cell_of S x) Undefined w))

-- what such touches write
undefined_written : (S : Scope) (xs : List (List ℕ)) (c : Cell) → written_by (undefined_all S xs) c ≡ true → IsNamedAmong S xs c
undefined_written S [] c h = absurd (both_ways false refl h)
undefined_written S (x ∷ xs) c h = elim (or_either (same_cell (cell_of S x) c) (written_by (undefined_all S xs) c) h) [
  | inl same ↦ (x, first_among x xs, cell_is (cell_of S x) c same)
  | inr more ↦ (let r = undefined_written S xs c more in (r.0, rest_among r.0 x xs r.1, r.2))
]

module _ (shown : Cell → Bool) (agreed : List Act → Cell → Bool) (suit : SuitEnds shown agreed) (names : List (List ℕ)) (apart : Cell → Bool) (p : Setting) (t : ProgramTree) (start : Store) (l : ℕ) (asked : AskNothing agreed names apart p t start l)
    (front behind : List Act) (u : Store) (old new : List Act) (e : IsOtherExit names apart p t start l front behind u old new) where
  abbrev at : Place
  at = place_of p e.number e.scope

  abbrev A : Act
  A = act e.step at (e.first ++ undefined_all e.scope e.undefined)

  abbrev B : Act
  B = act e.step at (e.first ++ undefined_all e.other e.undefined_now)

  fits_old : Fits (A ∷ []) u
  fits_old =
      let whole : Fits (front ++ ((A ∷ []) ++ behind)) start =
      subst (λ (acts : List Act). Fits acts start) (e.whole ∙ ap (λ (acts : List Act). front ++ (acts ++ behind)) e.old_is) ((all_told p t.body 1 []).fits start) in
      subst (Fits (A ∷ [])) (sym e.from) (fits_first (A ∷ []) behind (store_after front start) (fits_rest front ((A ∷ []) ++ behind) start whole))

  module _ (v : Store) (agree : AgreeIn (agreed ((A ∷ []) ++ behind)) u v) where
    fits_new : Fits (B ∷ []) v
    fits_new =
        let there : Fits (A ∷ []) v = agreeing_fits (A ∷ []) u v (λ c h. agree c (suit.needed (A ∷ []) behind c h)) fits_old in
        let first : Find e.first v = find_first e.first (undefined_all e.scope e.undefined) v there.0 in
        (find_append e.first (undefined_all e.other e.undefined_now) v first (find_undefined e.other e.undefined_now (store_behind e.first v)), tt)

    module _ (c : Cell) (wanted : agreed behind c ≡ true) where
      -- what one of the exits makes undefined the other does, too
      of_old : IsNamedAmong e.scope e.undefined c → IsNamedAmong e.other e.undefined_now c
      of_old h = by (is_among h.0 names) refl
        where
          by : (b : Bool) → is_among h.0 names ≡ b → IsNamedAmong e.other e.undefined_now c
          by false none = (h.0, e.alike h.0 none ∙ h.1, named_same names apart e.scope e.other e.near h.0 none ∙ h.2)
          by true among = elim (asked front behind u old new e h.0 among) [
            | inl in_both ↦ (h.0, in_both.1, in_both.2 ∙ h.2)
            | inr none ↦ absurd (both_ways (agreed behind c) (ap (agreed behind) (sym h.2) ∙ none.0 h.1) wanted)
          ]

      of_new : IsNamedAmong e.other e.undefined_now c → IsNamedAmong e.scope e.undefined c
      of_new h = by (is_among h.0 names) refl
        where
          by : (b : Bool) → is_among h.0 names ≡ b → IsNamedAmong e.scope e.undefined c
          by false none = (h.0, sym (e.alike h.0 none) ∙ h.1, sym (named_same names apart e.scope e.other e.near h.0 none) ∙ h.2)
          by true among = elim (asked front behind u old new e h.0 among) [
            | inl in_both ↦ (h.0, in_both.0, sym in_both.2 ∙ h.2)
            | inr none ↦ absurd (both_ways (agreed behind c) (ap (agreed behind) (sym h.2) ∙ none.1 h.1) wanted)
          ]

      -- before these touches both stores hold the same, where none of them writes the cell
      before : (IsNamedAmong e.scope e.undefined c → ⊥) → store_behind e.first u c ≡ store_behind e.first v c
      before none = agreeing_leaves (act e.step at e.first ∷ []) u v c (elim (suit.kept (A ∷ []) behind c wanted) [
        | inl so ↦ inr (agree c so)
        | inr write ↦ inl (by_first (sym (ap (λ (ts : List Touch). written_by ts c) (append-nil (e.first ++ undefined_all e.scope e.undefined))) ∙ write))
      ])
        where
          by_first : written_by (e.first ++ undefined_all e.scope e.undefined) c ≡ true → written (act e.step at e.first ∷ []) c ≡ true
          by_first h = ap (λ (ts : List Touch). written_by ts c) (append-nil e.first) ∙ elim (or_either (written_by e.first c) (written_by (undefined_all e.scope e.undefined) c) (sym (list_any-append (λ x. writes_to x c) e.first (undefined_all e.scope e.undefined)) ∙ h)) [
            | inl first ↦ first
            | inr more ↦ absurd (none (undefined_written e.scope e.undefined c more))
          ]

      abbrev Behind : Scope → List (List ℕ) → Store → Type 0
      Behind S xs w = (IsNamedAmong S xs c × (store_behind (undefined_all S xs) w c ≡ Undefined)) ⊎ ((IsNamedAmong S xs c → ⊥) × (store_behind (undefined_all S xs) w c ≡ w c))

      alike : Behind e.scope e.undefined (store_behind e.first u) → Behind e.other e.undefined_now (store_behind e.first v)
          → store_behind (undefined_all e.scope e.undefined) (store_behind e.first u) c ≡ store_behind (undefined_all e.other e.undefined_now) (store_behind e.first v) c
      alike (inl a) (inl b) = a.1 ∙ sym b.1
      alike (inl a) (inr b) = absurd (b.0 (of_old a.0))
      alike (inr a) (inl b) = absurd (a.0 (of_new b.0))
      alike (inr a) (inr b) = a.1 ∙ (before a.0 ∙ sym b.1)

      same_behind : store_after (A ∷ []) u c ≡ store_after (B ∷ []) v c
      same_behind =
          ap (λ (w : Store). w c) (behind_append e.first (undefined_all e.scope e.undefined) u)
          ∙ (alike (undefined_behind e.scope e.undefined (store_behind e.first u) c) (undefined_behind e.other e.undefined_now (store_behind e.first v) c)
          ∙ sym (ap (λ (w : Store). w c) (behind_append e.first (undefined_all e.other e.undefined_now) v)))

  pub exit_stands : StandsFor (record { agreed = agreed (old ++ behind); old = old; new = new }) (agreed behind) u
  exit_stands =
      subst (λ (a : List Act). StandsFor (record { agreed = agreed (a ++ behind); old = a; new = new }) (agreed behind) u) (sym e.old_is)
      (subst (λ (b : List Act). StandsFor (record { agreed = agreed ((A ∷ []) ++ behind); old = A ∷ []; new = b }) (agreed behind) u) (sym e.new_is)
      (λ v agree. (fits_new v agree, same_behind v agree)))
