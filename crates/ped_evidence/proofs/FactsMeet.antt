-- Values of which the facts are true satisfy the system.
use Rattle.std.proofs.Common.{◌≡◌, ℕ, ◌+◌, refl, sym, ap, ◌∙◌, arith, ℤ, List, [], ◌++◌, length, filter, append-nil, append_assoc, true}
use Rattle.std.proofs.lemmas.List.{length-append}
use Rattle.ped_views.specs.declared.directions.Direction.{Direction}
use Rattle.ped_certificates.specs.Rows.{Meets}
use Rattle.ped_affine.specs.Ranges.{Setting}
use Rattle.ped_affine.specs.PairViews.{Site}
use Rattle.ped_certificates.specs.declared.claims.Sign.{Sign}
use Rattle.ped_evidence.specs.Signs.{fits}
use Rattle.ped_evidence.specs.Levels.{levels_of}
use Rattle.ped_evidence.specs.Symbols.{symbols_of}
use Rattle.ped_evidence.specs.Layouts.{Layout, has_shared, common_levels, own_quotients, layout_of}
use Rattle.ped_evidence.specs.Systems.{side_rows, shared_rows, sign_rows, position_rows, symbol_rows, rows_in}
use Rattle.ped_evidence.specs.Facts.{Values, in_order, AreFor, AreReached, AreCommon, AreEqual, AreSmall}
use Rattle.ped_evidence.proofs.Arranging.{sink_behind}
use Rattle.ped_evidence.proofs.Meeting.{meets_both}
use Rattle.ped_evidence.proofs.SideRows.{side_rows_meet}
use Rattle.ped_evidence.proofs.SharedRows.{shared_rows_meet}
use Rattle.ped_evidence.proofs.SignRows.{sign_rows_meet}
use Rattle.ped_evidence.proofs.PositionRows.{position_rows_meet}
use Rattle.ped_evidence.proofs.SymbolRows.{symbol_rows_meet}
use Rattle.ped_evidence.proofs.Quotients.{own_steps, own_long, own_count, shared_steps, shared_long, shared_count}

module _ (s : Setting) (source sink : Site) (pattern : List Sign) (ds : List Direction) (from to symbols : List ℤ)
    (deep_source : length from ≡ length source.nest) (deep_sink : length to ≡ length sink.nest) (as_many : length symbols ≡ length (symbols_of s source sink))
    (source_reached : AreReached s (symbols_of s source sink) symbols [] (levels_of s source.nest) from) (sink_reached : AreReached s (symbols_of s source sink) symbols [] (levels_of s sink.nest) to)
    (common : AreCommon from to (common_levels s source sink) ds) (fit : fits pattern ds ≡ true)
    (equal : AreEqual s (symbols_of s source sink) from to symbols source.nest sink.nest source.subscripts sink.subscripts) (small : AreSmall s (symbols_of s source sink) symbols) where
  abbrev y : Layout
  y = layout_of s source sink

  abbrev of_source : List ℤ
  of_source = own_steps s (symbols_of s source sink) symbols [] (levels_of s source.nest) from source_reached

  abbrev of_sink : List ℤ
  of_sink = own_steps s (symbols_of s source sink) symbols [] (levels_of s sink.nest) to sink_reached

  abbrev of_both : List ℤ
  of_both = shared_steps s (symbols_of s source sink) from to (common_levels s source sink) ds common

  abbrev pub w : Values
  w = record { source = from; sink = to; quotients = of_source ++ (of_sink ++ of_both); symbols = symbols }

  source_long : length of_source ≡ own_quotients s (symbols_of s source sink) source.nest
  source_long = own_long s (symbols_of s source sink) symbols [] (levels_of s source.nest) from source_reached

  sink_long : length of_sink ≡ own_quotients s (symbols_of s source sink) sink.nest
  sink_long = own_long s (symbols_of s source sink) symbols [] (levels_of s sink.nest) to sink_reached

  both_long : length of_both ≡ length (filter (has_shared s (symbols_of s source sink)) (common_levels s source sink))
  both_long = shared_long s (symbols_of s source sink) from to (common_levels s source sink) ds common

  are_for : AreFor y.columns w
  are_for = record {
    source = deep_source;
    sink = deep_sink;
    quotients = (let a = length-append of_source (of_sink ++ of_both) in let b = length-append of_sink of_both in omega (arith, a, b, source_long, sink_long, both_long));
    symbols = as_many;
  }

  pub facts_meet : Meets (rows_in y source sink pattern) (in_order w)
  facts_meet =
      let names : List (List ℕ) = symbols_of s source sink in
      let all : List ℤ = in_order w in
      let own_source : ℕ = own_quotients s names source.nest in
      let own_sink : ℕ = own_quotients s names sink.nest in
      let front : of_source ++ (of_sink ++ of_both) ≡ [] ++ (of_source ++ (of_sink ++ of_both)) = refl in
      let behind : of_source ++ (of_sink ++ of_both) ≡ (of_source ++ of_sink) ++ (of_both ++ []) =
      sym (append_assoc of_source of_sink of_both) ∙ ap (λ (xs : List ℤ). (of_source ++ of_sink) ++ xs) (sym (append-nil of_both)) in
      let second : own_source + own_sink ≡ length (of_source ++ of_sink) = (let a = length-append of_source of_sink in omega (arith, a, source_long, sink_long)) in
      let sides = side_rows_meet y w are_for 0 0 [] (to ++ ((of_source ++ (of_sink ++ of_both)) ++ symbols)) (levels_of s source.nest) from refl (omega (arith, deep_source)) source_reached
      (own_count y w are_for [] (levels_of s source.nest) from source_reached 0 [] (of_sink ++ of_both) refl front) in
      let others = side_rows_meet y w are_for (length source.nest) own_source [] ((of_source ++ (of_sink ++ of_both)) ++ symbols) (levels_of s sink.nest) to (sink_behind y.columns w are_for) (omega (arith, deep_sink)) sink_reached
      (own_count y w are_for [] (levels_of s sink.nest) to sink_reached own_source of_source of_both (sym source_long) refl) in
      let shared = shared_rows_meet y w are_for (own_source + own_sink) (common_levels s source sink) ds common
      (shared_count y w are_for (common_levels s source sink) ds common (own_source + own_sink) (of_source ++ of_sink) [] second behind) in
      let signs = sign_rows_meet y.columns w are_for (common_levels s source sink) pattern ds common fit in
      let positions = position_rows_meet y w are_for source sink refl refl source.subscripts sink.subscripts equal in
      let last = symbol_rows_meet y w are_for 0 names symbols refl (omega (arith, as_many)) small in
      meets_both (side_rows y 0 0 (levels_of s source.nest) ++ side_rows y (length source.nest) own_source (levels_of s sink.nest) ++ shared_rows y (own_source + own_sink) (common_levels s source sink)
      ++ sign_rows y.columns (common_levels s source sink) pattern ++ position_rows y source sink source.subscripts sink.subscripts) (symbol_rows y 0 names) all
      (meets_both (side_rows y 0 0 (levels_of s source.nest) ++ side_rows y (length source.nest) own_source (levels_of s sink.nest) ++ shared_rows y (own_source + own_sink) (common_levels s source sink)
      ++ sign_rows y.columns (common_levels s source sink) pattern) (position_rows y source sink source.subscripts sink.subscripts) all
      (meets_both (side_rows y 0 0 (levels_of s source.nest) ++ side_rows y (length source.nest) own_source (levels_of s sink.nest) ++ shared_rows y (own_source + own_sink) (common_levels s source sink)) (sign_rows y.columns (common_levels s source sink) pattern) all
      (meets_both (side_rows y 0 0 (levels_of s source.nest) ++ side_rows y (length source.nest) own_source (levels_of s sink.nest)) (shared_rows y (own_source + own_sink) (common_levels s source sink)) all
      (meets_both (side_rows y 0 0 (levels_of s source.nest)) (side_rows y (length source.nest) own_source (levels_of s sink.nest)) all sides others) shared) signs) positions) last
