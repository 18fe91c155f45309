use Rattle.std.proofs.Common.{◌≡◌, ◌∷◌, [], ◌++◌, List, sym, ap, subst, ◌∙◌, map, arith}
use Rattle.std.proofs.lemmas.List.{map_push, nil_from_length}
use Rattle.std.specs.Prelude.{IfOk}
use Rattle.ped_tree.specs.Grammar.Statement.{Statements}
use Rattle.ped_tree.specs.Grammar.StatementViews.{note_of}
use Rattle.ped_units.specs.Reading.{Segment, segments_of}
use Rattle.ped_units.specs.Seeing.{AreReadUnits}
use Rattle.ped_units.specs.Views.{unit_entry_of, segment_of}
use Rattle.ped_units.proofs.reading.read_all.Goals as goal

nothing : {X : Type 0} (x : X) (xs : List X) → x ∷ xs ≡ [] → ⊥
nothing x xs h = absurd cc

pub returns-in-Some : goal.returns-in-Some
returns-in-Some c =
    let earlier = c.pop.new.self.items in
    let all_segments : map segment_of earlier ++ segment_of c.in-Some.last ∷ [] ≡ segments_of (map unit_entry_of c.args.entries.items) =
    sym (map_push segment_of earlier c.in-Some.last) ∙ sym (ap (map segment_of) c.in-Some.ensures.items) ∙ c.in_ok-segments.ensures in
    subst (λ (ss : List Segment). IfOk c.read_last.result (λ units. (all : Statements) → all.lines ≡ c.args.lines → all.directives ≡ map note_of c.args.directives.now → AreReadUnits all ss units.items)) all_segments c.read_last.ensures

pub returns-in-None : goal.returns-in-None
returns-in-None c all lines directives =
    let segments = c.in_ok-segments.segments in
    let none : segments.items ≡ [] = let long = segments.ok.0 in let empty = c.in-None.ensures.cases.0 in nil_from_length segments.items (omega (arith, long, empty)) in
    absurd (nothing _ _ (sym c.in_ok-segments.ensures ∙ ap (map segment_of) none))
