-- The subscripts of two accesses to one cell have equal values by their forms, and symbols hold numbers of 32 bits.
use Rattle.std.proofs.Common.{◌≡◌, ℕ, refl, sym, ap, ◌∙◌, subst, arith, ℤ, pos, int_eq, List, [], ◌∷◌, map, true, false, not, ◌&&◌, Result, Ok, Err}
use Rattle.std.specs.Cmp.Lexicographic.{pointwise}
use Rattle.std.specs.Cmp.Rules.{signed_items}
use Rattle.std.proofs.lemmas.Bool.{and_parts, or_left, or_right}
use Rattle.ped_base.specs.Lists.{is_same_text, is_among}
use Rattle.ped_views.specs.Intervals.{Lies}
use Rattle.ped_views.proofs.Products.{linear}
use Rattle.ped_tree.specs.Tree.{ExprTree, ProgramTree}
use Rattle.ped_tree.specs.Nests.{Loop}
use Rattle.ped_affine.specs.Ranges.{Setting, any_value}
use Rattle.ped_laws.specs.ped_graph.specs.Dependences.{setting_in}
use Rattle.ped_laws.specs.ped_store.specs.Cells.{Cell, Scalar, same_cell}
use Rattle.ped_laws.specs.ped_store.specs.Stores.{Store, number_read}
use Rattle.ped_laws.specs.ped_eval.specs.Scopes.{Scope, turns_of, names_in}
use Rattle.ped_laws.specs.ped_eval.specs.Outcomes.{setting_of}
use Rattle.ped_laws.specs.Conflicts.Making.{ComeTo, StandsFor}
use Rattle.ped_laws.specs.Conflicts.Reaching.{IsStoreIn, Reached}
use Rattle.ped_laws.proofs.CoveringLaws.Parts.{number_held, storable_lies}
use Rattle.ped_laws.proofs.CoveringLaws.Texts.{text_itself}
use Rattle.ped_laws.proofs.ConflictLaws.PossibleNames.{AssignWithin}
use Rattle.ped_evidence.specs.Facts.{AreEqual, AreSmall}
use Rattle.ped_evidence.proofs.PlacedForms.{AreSymbols, number_in, held_first, ys, told_by_form}

-- ---- symbols

lies_zero : Lies (pos 0) any_value
lies_zero = record { from = omega (arith, linear); to = omega (arith, linear) }

held_small : (s : Setting) (first u : Store) (x : List ℕ) → IsStoreIn s first u → is_among x s.assigned ≡ false → is_among x s.loop_variables ≡ false → Lies (held_first first x) any_value
held_small s first u x during kept other = by (number_read (first (Scalar x))) refl
  where
    by : (r : Result ℤ ℕ) → number_read (first (Scalar x)) ≡ r → Lies (number_in r) any_value
    by (Err f) e = lies_zero
    by (Ok n) e = storable_lies n (during.storable (Scalar x) n (ap not other) (during.constant x kept ∙ number_held (first (Scalar x)) n e))

pub symbols_small : (s : Setting) (first u : Store) (names : List (List ℕ)) → IsStoreIn s first u → ((x : List ℕ) → is_among x names ≡ true → is_among x s.assigned ≡ false) → AreSmall s names (map (held_first first) names)
symbols_small s first u [] during kept = tt
symbols_small s first u (x ∷ names) during kept = (
  λ other. held_small s first u x during (kept x (or_left (is_same_text x x) (is_among x names) (text_itself x))) other,
  symbols_small s first u names during (λ y h. kept y (or_right (is_same_text y x) (is_among y names) h)),
)

-- ---- subscripts

module _ (t : ProgramTree) (o : ℕ) (first : Store) (names : List (List ℕ)) (L M : List Loop) (at_source at_sink : Scope) (u v : Store) (source_symbols : AreSymbols (setting_in t o) L names) (sink_symbols : AreSymbols (setting_in t o) M names)
    (source_within : AssignWithin t o L) (sink_within : AssignWithin t o M) (to_source : Reached t (setting_in t o) first L at_source) (to_sink : Reached t (setting_in t o) first M at_sink)
    (source_store : IsStoreIn (setting_in t o) first u) (sink_store : IsStoreIn (setting_in t o) first v) where
  abbrev from : List ℤ
  from = map (λ i. i.value) (turns_of at_source)

  abbrev to : List ℤ
  to = map (λ i. i.value) (turns_of at_sink)

  abbrev Equal : List ExprTree → List ExprTree → Type 0
  Equal es gs = AreEqual (setting_in t o) names from to (ys t o first names) L M es gs

  all_equal : (es gs : List ExprTree) (ns : List ℤ) → ComeTo (names_in (setting_of t) at_source) u es ns → ComeTo (names_in (setting_of t) at_sink) v gs ns → Equal es gs
  all_equal [] gs ns p q = tt
  all_equal (e ∷ es) [] ns p q = tt
  all_equal (e ∷ es) (g ∷ gs) [] p q = absurd p
  all_equal (e ∷ es) (g ∷ gs) (n ∷ ns) p q = (
    λ f h i j.
        let a = told_by_form t o first names L at_source u source_symbols source_within to_source source_store e f n p.0 i in
        let b = told_by_form t o first names M at_sink v sink_symbols sink_within to_sink sink_store g h n q.0 j in
        (a.0, b.0, sym a.1 ∙ b.1),
    all_equal es gs ns p.1 q.1,
  )

  -- subscripts that stand for one cell
  pub cells_equal : (es gs : List ExprTree) (x y : List ℕ) (c d : Cell) → StandsFor t (names_in (setting_of t) at_source) u x es c → StandsFor t (names_in (setting_of t) at_sink) v y gs d → same_cell c d ≡ true → Equal es gs
  cells_equal [] gs x y c d p q h = tt
  cells_equal (e ∷ es) [] x y c d p q h = tt
  cells_equal (e ∷ es) (g ∷ gs) x y c d p q h =
      let both : (is_same_text x y && pointwise int_eq p.0 q.0) ≡ true = (λ i. same_cell (sym p.2 i) (sym q.2 i)) ∙ h in
      let numbers : p.0 ≡ q.0 = (signed_items p.0 q.0).0 (and_parts (is_same_text x y) (pointwise int_eq p.0 q.0) both).1 in
      all_equal (e ∷ es) (g ∷ gs) q.0 (subst (λ (ns : List ℤ). ComeTo (names_in (setting_of t) at_source) u (e ∷ es) ns) numbers p.1) q.1
