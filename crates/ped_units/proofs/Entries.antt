-- Statements that are read one behind the other.
use Rattle.std.proofs.Common.{◌≡◌, List, [], ◌∷◌, ◌++◌, map, refl, sym, subst, ◌∙◌}
use Rattle.std.proofs.lemmas.List.{map_push}
use Rattle.ped_tree.specs.Grammar.Statement.{Statement}
use Rattle.ped_tree.specs.Grammar.StatementViews.{statement_of}
use Rattle.ped_tree.specs.declared.grammar.statements.Statement as lines
use Rattle.ped_expressions.specs.ExpressionReading.{saturated}
use Rattle.ped_units.specs.Reading.{UnitEntry, AreUnitEntries}
use Rattle.ped_units.specs.UnitReading.{IsItemReadAs}
use Rattle.ped_units.specs.Seeing.{entry_with_literals, AreItemsReadAs}
use Rattle.ped_units.specs.Views.{unit_entry_of}
use Rattle.ped_units.specs.declared.items.UnitEntry as items

entries_more : (ss : List Statement) (es : List UnitEntry) (s : Statement) (e : UnitEntry) → AreUnitEntries ss es → AreUnitEntries (s ∷ []) (e ∷ []) → AreUnitEntries (ss ++ s ∷ []) (es ++ e ∷ [])
entries_more [] [] s e h k = k
entries_more (t ∷ ts) (f ∷ fs) s e h k = (h.0, h.1, entries_more ts fs s e h.2 k)
entries_more [] (f ∷ fs) s e h k = absurd h
entries_more (t ∷ ts) [] s e h k = absurd h

read_more : (ss : List Statement) (es : List UnitEntry) (s : Statement) (e : UnitEntry) → AreItemsReadAs ss es → e.statement ≡ s → IsItemReadAs saturated s.text e.item → AreItemsReadAs (ss ++ s ∷ []) (es ++ e ∷ [])
read_more ss es s e h same r =
    let plain : UnitEntry = record { statement = s; item = r.0 } in
    let is : e ≡ entry_with_literals saturated plain = λ j. record { statement = same j; item = r.2 j } in
    (h.0 ++ plain ∷ [], entries_more ss h.0 s plain h.1 (refl, r.1, tt), (λ j. h.2 j ++ is j ∷ []) ∙ sym (map_push (entry_with_literals saturated) h.0 plain))

-- the same of the statements and entries of the code
pub entry_read : (ss : List lines.Statement) (es : List items.UnitEntry) (s : lines.Statement) (e : items.UnitEntry) → AreItemsReadAs (map statement_of ss) (map unit_entry_of es)
    → ((unit_entry_of e).statement ≡ statement_of s) × IsItemReadAs saturated (statement_of s).text (unit_entry_of e).item
    → AreItemsReadAs (map statement_of (ss ++ s ∷ [])) (map unit_entry_of (es ++ e ∷ []))
entry_read ss es s e h k =
    let more = read_more (map statement_of ss) (map unit_entry_of es) (statement_of s) (unit_entry_of e) h k.0 k.1 in
    let p = map_push statement_of ss s in
    let q = map_push unit_entry_of es e in
    subst (λ (ys : List UnitEntry). AreItemsReadAs (map statement_of (ss ++ s ∷ [])) ys) (sym q) (subst (λ (xs : List Statement). AreItemsReadAs xs (map unit_entry_of es ++ unit_entry_of e ∷ [])) (sym p) more)
