-- The symbols of a pair are names of no DO round either reference, that the outermost DO doesn't assign, each once.
use Rattle.std.proofs.Common.{◌≡◌, ℕ, List, [], ◌∷◌, ◌++◌, filter, Bool, true, false, not, ◌&&◌, ◌||◌, if◌then◌else◌, refl, sym, ap, ◌∙◌}
use Rattle.std.specs.Prelude.{is_some}
use Rattle.std.proofs.lemmas.Bool.{and_parts}
use Rattle.std.proofs.lemmas.List.Folds.{list_any-append}
use Rattle.std.proofs.lemmas.Map.Views.{any-filter_same}
use Rattle.ped_base.specs.Lists.{is_same_text, is_among}
use Rattle.ped_tree.specs.Nests.{indices_of}
use Rattle.ped_tree.specs.Names.Collecting.{with_name, with_names}
use Rattle.ped_tree.specs.Constants.NamedConstants.{value_named}
use Rattle.ped_tree.proofs.NameLaws.Collected.{among_collected}
use Rattle.ped_affine.specs.Ranges.{Setting}
use Rattle.ped_affine.specs.PairViews.{Site}
use Rattle.ped_laws.specs.Covering.Together.{AreDistinct}
use Rattle.ped_laws.proofs.CoveringLaws.Texts.{text_is, text_itself}
use Rattle.ped_evidence.specs.Symbols.{is_symbol, names_at, symbols_of}
use Rattle.ped_evidence.proofs.PlacedForms.{AreSymbols}

not_true : (a : Bool) → not a ≡ true → a ≡ false
not_true true h = absurd cc
not_true false h = refl

none_of : (a b : Bool) → (a || b) ≡ false → (a ≡ false) × (b ≡ false)
none_of true b k = absurd cc
none_of false b k = (refl, k)

either_none : (a b : Bool) → a ≡ false → b ≡ false → (a || b) ≡ false
either_none a b e h = λ i. e i || h i

same_turned : (x y : List ℕ) → is_same_text x y ≡ false → is_same_text y x ≡ false
same_turned x y h = by (is_same_text y x) refl
  where
    by : (b : Bool) → is_same_text y x ≡ b → b ≡ false
    by false e = refl
    by true e = let t : is_same_text x y ≡ true = ap (is_same_text x) (text_is y x e) ∙ text_itself x in absurd cc

-- one more name at the end
distinct_more : (xs : List (List ℕ)) (y : List ℕ) → AreDistinct xs → is_among y xs ≡ false → AreDistinct (xs ++ y ∷ [])
distinct_more [] y d h = (refl, tt)
distinct_more (x ∷ xs) y d h =
    let r = none_of (is_same_text y x) (is_among y xs) h in
    (list_any-append (is_same_text x) xs (y ∷ []) ∙ either_none (is_among x xs) (is_among x (y ∷ [])) d.0 (either_none (is_same_text x y) false (same_turned y x r.0) refl), distinct_more xs y d.1 r.1)

collected_once : (names others : List (List ℕ)) → AreDistinct names → AreDistinct (with_names names others)
collected_once names [] d = d
collected_once names (x ∷ others) d = collected_once (with_name names x) others (by (is_among x names) refl)
  where
    by : (b : Bool) → is_among x names ≡ b → AreDistinct (if b then names else names ++ x ∷ [])
    by true e = d
    by false e = distinct_more names x d e

-- a name that is kept passes the test
passes : (test : List ℕ → Bool) (y : List ℕ) (xs : List (List ℕ)) → is_among y (filter test xs) ≡ true → test y ≡ true
passes test y xs h = (and_parts (test y) (is_among y xs) (sym (any-filter_same (is_same_text y) test (test y) (λ x e. ap test (sym (text_is y x e))) xs) ∙ h)).0

module _ (s : Setting) (source sink : Site) where
  symbol_passes : (x : List ℕ) → is_among x (symbols_of s source sink) ≡ true → is_symbol s source sink x ≡ true
  symbol_passes x h =
      passes (is_symbol s source sink) x (names_at s source ++ names_at s sink) (sym (among_collected x [] (filter (is_symbol s source sink) (names_at s source ++ names_at s sink))) ∙ h)

  -- no variable round the source, none round the sink, and not assigned
  parts : (x : List ℕ) → is_among x (symbols_of s source sink) ≡ true → (is_among x (indices_of source.nest) ≡ false) × (is_among x (indices_of sink.nest) ≡ false) × (is_among x s.assigned ≡ false)
  parts x h =
      let a = and_parts (not (is_some (value_named s.constants x))) (not (is_among x (indices_of source.nest)) && not (is_among x (indices_of sink.nest)) && not (is_among x s.assigned)) (symbol_passes x h) in
      let b = and_parts (not (is_among x (indices_of source.nest)) && not (is_among x (indices_of sink.nest))) (not (is_among x s.assigned)) a.1 in
      let c = and_parts (not (is_among x (indices_of source.nest))) (not (is_among x (indices_of sink.nest))) b.0 in
      (not_true (is_among x (indices_of source.nest)) c.0, not_true (is_among x (indices_of sink.nest)) c.1, not_true (is_among x s.assigned) b.1)

  once : AreDistinct (symbols_of s source sink)
  once = collected_once [] (filter (is_symbol s source sink) (names_at s source ++ names_at s sink)) tt

  pub source_symbols : AreSymbols s source.nest (symbols_of s source sink)
  source_symbols = record { once = once; other = λ x h. (parts x h).0; kept = λ x h. (parts x h).2 }

  pub sink_symbols : AreSymbols s sink.nest (symbols_of s source sink)
  sink_symbols = record { once = once; other = λ x h. (parts x h).1; kept = λ x h. (parts x h).2 }
