-- What was found before all lines of a statement comes before all that is refused at them.
use Rattle.std.proofs.Common.{◌≡◌, ℕ, Bool, true, false, ◌&&◌, ◌||◌, ◌==◌, nat_lt, List, [], ◌∷◌, ◌++◌, Option, Some, if◌then◌else◌, refl, ap, ◌∙◌, eqb-true, arith}
use Rattle.std.specs.List.{list_all, flat_map}
use Rattle.std.proofs.lemmas.List.Concat.{flat_map-cons}
use Rattle.ped_tree.specs.Grammar.Statement.{Note}
use Rattle.ped_tree.specs.Grammar.Items.{Entry}
use Rattle.ped_tree.specs.Grammar.Contexts.{Context}
use Rattle.ped_tree.specs.Grammar.Refusal.{Refusal, Finding, Syntax, NotInProfile, OpenBlock, BadTerminal, IndexAssigned, StopPlace, Limit, number_of, refused_if, is_before, earlier, earliest}
use Rattle.ped_tree.specs.Grammar.ProgramRefusals.{at_directives, at_private, at_statement, breaks_syntax, is_left_out, where_it_says, leaves_open, ends_badly, assigns_index, stops, loop_depth, passes_limit, is_bad_directive}
use Rattle.ped_tree.proofs.GrammarLaws.First.{earliest_append}

later_stays : (a p b q : ℕ) → nat_lt b a ≡ true → nat_lt a b || (a == b && nat_lt p q) ≡ false
later_stays a p b q h = grind (arith, eqb-true)

stays : (b : Bool) (f r : Finding) → b ≡ false → (if b then Some r else Some f) ≡ Some f
stays true f r h = absurd cc
stays false f r h = refl

one_later : (f : Finding) (refusal : Refusal) (line : ℕ) (t : Bool) → nat_lt f.line line ≡ true → earliest (Some f) (refused_if t refusal line) ≡ Some f
unfolding refused_if earlier is_before
one_later f refusal line true h = stays (is_before record { refusal = refusal; line = line } f) f record { refusal = refusal; line = line } (later_stays line (number_of refusal) f.line (number_of f.refusal) h)
one_later f refusal line false h = refl

line_before : (a p b q line : ℕ) → nat_lt b line ≡ true → nat_lt a b || (a == b && nat_lt p q) ≡ true → nat_lt a line ≡ true
line_before a p b q line h k = grind (arith, eqb-true)

-- one of two findings before it stays
one_stays : (b : Bool) (f r : Finding) (rs more : List Finding) → (b ≡ true → earliest (Some r) (rs ++ more) ≡ earliest (Some r) rs) → earliest (Some f) (rs ++ more) ≡ earliest (Some f) rs → earliest (if b then Some r else Some f) (rs ++ more) ≡ earliest (if b then Some r else Some f) rs
one_stays true f r rs more h k = h refl
one_stays false f r rs more h k = k

-- something later adds nothing
later_adds_nothing : (f : Finding) (front : List Finding) (refusal : Refusal) (line : ℕ) (t : Bool) → nat_lt f.line line ≡ true → earliest (Some f) (front ++ refused_if t refusal line) ≡ earliest (Some f) front
unfolding earlier is_before
later_adds_nothing f [] refusal line t h = one_later f refusal line t h
later_adds_nothing f (r ∷ rs) refusal line t h =
    one_stays (is_before r f) f r rs (refused_if t refusal line)
    (λ e. later_adds_nothing r rs refusal line t (line_before r.line (number_of r.refusal) f.line (number_of f.refusal) line h e))
    (later_adds_nothing f rs refusal line t h)

both : (a b : Bool) → a && b ≡ true → (a ≡ true) × (b ≡ true)
both true b h = (refl, h)
both false b h = absurd cc

directives_later : (test : Note → Bool) (f : Finding) (ds : List Note) → list_all (λ d. nat_lt f.line d.line) ds ≡ true → earliest (Some f) (flat_map (λ d. refused_if (test d) Syntax d.line) ds) ≡ Some f
directives_later test f [] h = refl
directives_later test f (d ∷ ds) h =
    let at : Note → List Finding = λ d. refused_if (test d) Syntax d.line in
    let parts = both (nat_lt f.line d.line) (list_all (λ d. nat_lt f.line d.line) ds) h in
    ap (earliest (Some f)) (flat_map-cons at d ds)
    ∙ earliest_append (Some f) (at d) (flat_map at ds)
    ∙ ap (λ (found : Option Finding). earliest found (flat_map at ds)) (one_later f Syntax d.line (test d) parts.0)
    ∙ directives_later test f ds parts.1

-- only what is refused at an earlier line counts
pub statement_later : (f : Finding) (saved : List (List ℕ)) (c : Context) (e : Entry) (rest : List Entry) → nat_lt f.line e.statement.line ≡ true → list_all (λ d. nat_lt f.line d.line) e.statement.directives ≡ true → earliest (Some f) (at_statement saved c e rest) ≡ earliest (Some f) (at_private c e.reading)
statement_later f saved c e rest h k =
    let line = e.statement.line in
    let first : List Finding = at_directives c e in
    let second : List Finding = first ++ refused_if (breaks_syntax c e.statement.label e.reading) Syntax line in
    let third : List Finding = second ++ refused_if (is_left_out e.reading) NotInProfile line in
    let fourth : List Finding = third ++ refused_if (where_it_says (leaves_open c.blocks) e.reading) OpenBlock line in
    let fifth : List Finding = fourth ++ refused_if (ends_badly c.blocks e.statement.label e.reading) BadTerminal line in
    let sixth : List Finding = fifth ++ refused_if (assigns_index c e.reading) IndexAssigned line in
    let seventh : List Finding = sixth ++ at_private c e.reading in
    let eighth : List Finding = seventh ++ refused_if (where_it_says stops e.reading && nat_lt 0 (loop_depth c.blocks)) StopPlace line in
    let stays : earliest (Some f) sixth ≡ Some f =
    later_adds_nothing f fifth IndexAssigned line (assigns_index c e.reading) h
    ∙ later_adds_nothing f fourth BadTerminal line (ends_badly c.blocks e.statement.label e.reading) h
    ∙ later_adds_nothing f third OpenBlock line (where_it_says (leaves_open c.blocks) e.reading) h
    ∙ later_adds_nothing f second NotInProfile line (is_left_out e.reading) h
    ∙ later_adds_nothing f first Syntax line (breaks_syntax c e.statement.label e.reading) h
    ∙ directives_later (is_bad_directive c e) f e.statement.directives k in
    later_adds_nothing f eighth Limit line (where_it_says (passes_limit saved c rest) e.reading) h
    ∙ later_adds_nothing f seventh StopPlace line (where_it_says stops e.reading && nat_lt 0 (loop_depth c.blocks)) h
    ∙ earliest_append (Some f) sixth (at_private c e.reading)
    ∙ ap (λ (found : Option Finding). earliest found (at_private c e.reading)) stays
