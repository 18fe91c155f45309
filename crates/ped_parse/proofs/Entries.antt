-- Statements that are read one behind the other.
use Rattle.std.proofs.Common.{◌≡◌, List, [], ◌∷◌, ◌++◌, map, refl, sym, subst, ◌∙◌}
use Rattle.std.proofs.lemmas.List.{map_push}
use Rattle.ped_tree.specs.Grammar.Statement.{Statement}
use Rattle.ped_tree.specs.Grammar.Items.{Entry}
use Rattle.ped_tree.specs.Grammar.Reading.{AreEntries}
use Rattle.ped_statements.specs.ped_expressions.specs.ExpressionReading.{saturated}
use Rattle.ped_statements.specs.Saturated.{IsReadAs, entry_with_literals}
use Rattle.ped_tree.specs.Grammar.StatementViews.{statement_of}
use Rattle.ped_tree.specs.declared.grammar.statements.Statement as lines
use Rattle.ped_tree.specs.Grammar.ItemViews.{entry_of}
use Rattle.ped_tree.specs.declared.grammar.items.Entry as items
use Rattle.ped_parse.specs.Entries.{AreReadAs}

entries_more : (ss : List Statement) (es : List Entry) (s : Statement) (e : Entry) → AreEntries ss es → AreEntries (s ∷ []) (e ∷ []) → AreEntries (ss ++ s ∷ []) (es ++ e ∷ [])
entries_more [] [] s e h k = k
entries_more (t ∷ ts) (f ∷ fs) s e h k = (h.0, h.1, entries_more ts fs s e h.2 k)
entries_more [] (f ∷ fs) s e h k = absurd h
entries_more (t ∷ ts) [] s e h k = absurd h

read_more : (ss : List Statement) (es : List Entry) (s : Statement) (e : Entry) → AreReadAs ss es → e.statement ≡ s → IsReadAs saturated s.text e.reading → AreReadAs (ss ++ s ∷ []) (es ++ e ∷ [])
read_more ss es s e h same r =
    let plain : Entry = record { statement = s; reading = r.0 } in
    let is : e ≡ entry_with_literals saturated plain = λ j. record { statement = same j; reading = r.2 j } in
    (h.0 ++ plain ∷ [], entries_more ss h.0 s plain h.1 (refl, r.1, tt), (λ j. h.2 j ++ is j ∷ []) ∙ sym (map_push (entry_with_literals saturated) h.0 plain))

-- the same of the statements and entries of the code
pub entry_read : (ss : List lines.Statement) (es : List items.Entry) (s : lines.Statement) (e : items.Entry) → AreReadAs (map statement_of ss) (map entry_of es)
    → ((entry_of e).statement ≡ statement_of s) × IsReadAs saturated (statement_of s).text (entry_of e).reading
    → AreReadAs (map statement_of (ss ++ s ∷ [])) (map entry_of (es ++ e ∷ []))
entry_read ss es s e h k =
    let more = read_more (map statement_of ss) (map entry_of es) (statement_of s) (entry_of e) h k.0 k.1 in
    let p = map_push statement_of ss s in
    let q = map_push entry_of es e in
    subst (λ (ys : List Entry). AreReadAs (map statement_of (ss ++ s ∷ [])) ys) (sym q) (subst (λ (xs : List Statement). AreReadAs xs (map entry_of es ++ entry_of e ∷ [])) (sym p) more)
