-- The refusals of statements stay the same where a literal that 32 bits don't hold is taken as the greatest number that they hold.
use Rattle.std.proofs.Common.{◌≡◌, ℕ, ◌+◌, Bool, true, false, cond, List, [], ◌∷◌, ◌++◌, map, max, Option, Some, None, refl, ap, ◌∙◌}
use Rattle.std.specs.Prelude.{◌||◌, ◌&&◌, not, nat_lt, filter}
use Rattle.std.specs.List.{flat_map}
use Rattle.ped_tree.specs.Grammar.Refusal.{Finding, Syntax, NotInProfile, OpenBlock, BadTerminal, IndexAssigned, StopPlace, Limit, refused_if}
use Rattle.ped_tree.specs.Grammar.Statement.{Note, Statement, Statements}
use Rattle.ped_tree.specs.Grammar.Items.{Item, Reading, says, outside_profile, no_form, Entry}
use Rattle.ped_tree.specs.Grammar.Occurrences.{of_reading, names_in, do_variables, constants_of, rejected_names, entry_names, saved_names, is_rejection, is_end_entry, up_to_end, saved_among}
use Rattle.ped_base.specs.Lists.{is_among}
use Rattle.ped_tree.specs.NamesIn.{first_occurrences}
use Rattle.ped_tree.specs.Grammar.Contexts.{OpenLoop, Context, at_start, is_do, may_end, open_loops, open_variables, has_do, behind_item, behind_reading, behind, behind_all}
use Rattle.ped_tree.specs.Grammar.ProgramRefusals.{where_it_says, is_left_out, is_out_of_order, is_misplaced, is_behind_end, breaks_syntax, leaves_open, closed, ends_badly, assigned_in, private_in, meets, assigns_index, at_private, stops, private_behind, loop_depth, passes_limit, is_parted, at_directives, at_statement, at_statements, at_end, program_refusals}
use Rattle.ped_statements.specs.ped_expressions.specs.ExpressionReading.{saturated}
use Rattle.ped_statements.specs.Saturated.{says_with_literals, reading_with_literals, entry_with_literals}
use Rattle.ped_parse.proofs.OtherLiterals.{flat_with, names_with, do_variables_with, constants_with, rank_with, numbered_with, is_do_with, may_end_with, saves_list_with, saves_without_with, lacks_if_with, lacks_do_with, late_with, leaves_with, assigned_with, private_with, stops_with, blocks_with, is_end_with}
use Rattle.ped_parse.proofs.LargeItems.{limit_same}

where_with : (v : ℕ → ℕ) (test : Item → Bool) → ((i : Item) → test (says_with_literals v i) ≡ test i) → (r : Reading) → where_it_says test (reading_with_literals v r) ≡ where_it_says test r
where_with v test h (says i) = h i
where_with v test h outside_profile = refl
where_with v test h no_form = refl

of_with : (v : ℕ → ℕ) (has : Item → List (List ℕ)) → ((i : Item) → has (says_with_literals v i) ≡ has i) → (r : Reading) → of_reading has (reading_with_literals v r) ≡ of_reading has r
of_with v has h (says i) = h i
of_with v has h outside_profile = refl
of_with v has h no_form = refl

behind_item_with : (v : ℕ → ℕ) (c : Context) (s : Statement) (i : Item) → behind_item c s (says_with_literals v i) ≡ behind_item c s i
behind_item_with v c s i =
    let p = rank_with v i in
    let b = blocks_with v c.behind_do s i c.blocks in
    let n = numbered_with v i in
    let d = is_do_with v i in
    let k = constants_with v i in
    let l = saves_list_with v i in
    let w = saves_without_with v i in
    λ j. record {
      phase = max c.phase (p j);
      blocks = b j;
      statements = c.statements + n j;
      constants = c.constants ++ k j;
      saves_names = c.saves_names || l j;
      saves_everything = c.saves_everything || w j;
      behind_do = d j;
    }

behind_reading_with : (v : ℕ → ℕ) (c : Context) (s : Statement) (r : Reading) → behind_reading c s (reading_with_literals v r) ≡ behind_reading c s r
behind_reading_with v c s (says i) = behind_item_with v c s i
behind_reading_with v c s outside_profile = refl
behind_reading_with v c s no_form = refl

behind_with : (v : ℕ → ℕ) (c : Context) (e : Entry) → behind c (entry_with_literals v e) ≡ behind c e
behind_with v c e = behind_reading_with v c e.statement e.reading

behind_all_with : (v : ℕ → ℕ) (c : Context) (es : List Entry) → behind_all c (map (entry_with_literals v) es) ≡ behind_all c es
behind_all_with v c [] = refl
behind_all_with v c (e ∷ es) = ap (λ (d : Context). behind_all d (map (entry_with_literals v) es)) (behind_with v c e) ∙ behind_all_with v (behind c e) es

misplaced_with : (v : ℕ → ℕ) (c : Context) (label : Option ℕ) (i : Item) → is_misplaced c label (says_with_literals v i) ≡ is_misplaced c label i
misplaced_with v c label i =
    let p = rank_with v i in
    let l = lacks_if_with v c.blocks i in
    let t = late_with v c.behind_do i in
    let s = saves_list_with v i in
    let w = saves_without_with v i in
    let d = lacks_do_with v c.blocks label i in
    λ j. is_out_of_order c.phase (p j) || l j || t j || ((s j && c.saves_everything) || (w j && (c.saves_names || c.saves_everything))) || d j

breaks_with : (v : ℕ → ℕ) (c : Context) (label : Option ℕ) (r : Reading) → breaks_syntax c label (reading_with_literals v r) ≡ breaks_syntax c label r
breaks_with v c label (says i) = let m = misplaced_with v c label i in λ j. not false && (is_behind_end c || false || m j)
breaks_with v c label outside_profile = refl
breaks_with v c label no_form = refl

outside_with : (v : ℕ → ℕ) (r : Reading) → is_left_out (reading_with_literals v r) ≡ is_left_out r
outside_with v (says i) = refl
outside_with v outside_profile = refl
outside_with v no_form = refl

ends_with : (v : ℕ → ℕ) (c : Context) (label : Option ℕ) (r : Reading) → ends_badly c.blocks label (reading_with_literals v r) ≡ ends_badly c.blocks label r
ends_with v c None r = refl
ends_with v c (Some l) r = ap (λ (b : Bool). has_do l c.blocks && not (b && not (has_do l (closed l c.blocks)))) (where_with v may_end (may_end_with v) r)

index_with : (v : ℕ → ℕ) (c : Context) (r : Reading) → assigns_index c (reading_with_literals v r) ≡ assigns_index c r
index_with v c r =
    let a = of_with v assigned_in (assigned_with v) r in
    let p = of_with v private_in (private_with v) r in
    λ j. meets (a j ++ p j) (open_variables c.blocks)

at_private_with : (v : ℕ → ℕ) (c : Context) (r : Reading) → at_private c (reading_with_literals v r) ≡ at_private c r
at_private_with v c r =
    let x = of_with v do_variables (do_variables_with v) r in
    λ j. flat_map (λ (d : OpenLoop). refused_if (meets (x j) d.private) IndexAssigned d.private_line) (open_loops c.blocks)

directives_with : (v : ℕ → ℕ) (c : Context) (e : Entry) → at_directives c (entry_with_literals v e) ≡ at_directives c e
directives_with v c e =
    let d = where_with v is_do (is_do_with v) e.reading in
    λ j. flat_map (λ (n : Note). refused_if (is_behind_end c || not (is_rejection n.text) || not (d j) || nat_lt e.statement.line n.line || is_parted n e.statement) Syntax n.line) e.statement.directives

private_behind_with : (v : ℕ → ℕ) (es : List Entry) → private_behind (map (entry_with_literals v) es) ≡ private_behind es
private_behind_with v [] = refl
private_behind_with v (e ∷ es) = of_with v private_in (private_with v) e.reading

limit_with : (saved : List (List ℕ)) (c : Context) (rest : List Entry) (r : Reading)
    → where_it_says (passes_limit saved c (map (entry_with_literals saturated) rest)) (reading_with_literals saturated r) ≡ where_it_says (passes_limit saved c rest) r
limit_with saved c rest (says i) = limit_same saved c (map (entry_with_literals saturated) rest) rest (private_behind_with saturated rest) i
limit_with saved c rest outside_profile = refl
limit_with saved c rest no_form = refl

at_statement_with : (saved : List (List ℕ)) (c : Context) (e : Entry) (rest : List Entry)
    → at_statement saved c (entry_with_literals saturated e) (map (entry_with_literals saturated) rest) ≡ at_statement saved c e rest
at_statement_with saved c e rest =
    let v = saturated in
    let a = directives_with v c e in
    let b = breaks_with v c e.statement.label e.reading in
    let o = outside_with v e.reading in
    let l = where_with v (leaves_open c.blocks) (leaves_with v c.blocks) e.reading in
    let t = ends_with v c e.statement.label e.reading in
    let x = index_with v c e.reading in
    let p = at_private_with v c e.reading in
    let s = where_with v stops (stops_with v) e.reading in
    let m = limit_with saved c rest e.reading in
    λ j.
    a j
    ++ refused_if (b j) Syntax e.statement.line
    ++ refused_if (o j) NotInProfile e.statement.line
    ++ refused_if (l j) OpenBlock e.statement.line
    ++ refused_if (t j) BadTerminal e.statement.line
    ++ refused_if (x j) IndexAssigned e.statement.line
    ++ p j
    ++ refused_if (s j && nat_lt 0 (loop_depth c.blocks)) StopPlace e.statement.line
    ++ refused_if (m j) Limit e.statement.line

at_statements_with : (saved : List (List ℕ)) (c : Context) (es : List Entry) → at_statements saved c (map (entry_with_literals saturated) es) ≡ at_statements saved c es
at_statements_with saved c [] = refl
at_statements_with saved c (e ∷ es) =
    let a = at_statement_with saved c e es in
    let b = behind_with saturated c e in
    (λ j. a j ++ at_statements saved (b j) (map (entry_with_literals saturated) es))
    ∙ ap (λ (fs : List Finding). at_statement saved c e es ++ fs) (at_statements_with saved (behind c e) es)

entry_names_with : (v : ℕ → ℕ) (e : Entry) → entry_names (entry_with_literals v e) ≡ entry_names e
entry_names_with v e = ap (λ (xs : List (List ℕ)). rejected_names e.statement.directives ++ xs) (of_with v names_in (names_with v) e.reading)

is_end_entry_with : (v : ℕ → ℕ) (r : Reading) → is_end_entry (reading_with_literals v r) ≡ is_end_entry r
is_end_entry_with v (says i) = is_end_with v i
is_end_entry_with v outside_profile = refl
is_end_entry_with v no_form = refl

up_to_end_with : (v : ℕ → ℕ) (es : List Entry) → up_to_end (map (entry_with_literals v) es) ≡ map (entry_with_literals v) (up_to_end es)
up_to_end_with v [] = refl
up_to_end_with v (e ∷ es) =
    let f = entry_with_literals v e in
    let t = is_end_entry_with v e.reading in
    let rest = up_to_end_with v es in
    let go : (b : Bool) → cond b (f ∷ []) (f ∷ map (entry_with_literals v) (up_to_end es)) ≡ map (entry_with_literals v) (cond b (e ∷ []) (e ∷ up_to_end es)) = λ b. elim b as (λ b. cond b (f ∷ []) (f ∷ map (entry_with_literals v) (up_to_end es)) ≡ map (entry_with_literals v) (cond b (e ∷ []) (e ∷ up_to_end es))) [
      | true ↦ refl
      | false ↦ refl
    ] in
    (λ j. cond (t j) (f ∷ []) (f ∷ rest j)) ∙ go (is_end_entry e.reading)

saved_among_with : (v : ℕ → ℕ) (es : List Entry) → saved_among (map (entry_with_literals v) es) ≡ saved_among es
saved_among_with v es =
    let n = flat_with entry_names (entry_with_literals v) (entry_names_with v) es in
    let d = flat_with (λ (e : Entry). of_reading do_variables e.reading) (entry_with_literals v) (λ e. of_with v do_variables (do_variables_with v) e.reading) es in
    let k = flat_with (λ (e : Entry). of_reading constants_of e.reading) (entry_with_literals v) (λ e. of_with v constants_of (constants_with v) e.reading) es in
    λ j. filter (λ x. not (is_among x (k j)) && not (is_among x (d j))) (first_occurrences [] (n j))

saved_with : (v : ℕ → ℕ) (es : List Entry) → saved_names (map (entry_with_literals v) es) ≡ saved_names es
saved_with v es = ap saved_among (up_to_end_with v es) ∙ saved_among_with v (up_to_end es)

pub refusals_with : (all : Statements) (es : List Entry) → program_refusals all (map (entry_with_literals saturated) es) ≡ program_refusals all es
refusals_with all es =
    let s = saved_with saturated es in
    let b = behind_all_with saturated at_start es in
    (λ j. at_statements (s j) at_start (map (entry_with_literals saturated) es) ++ at_end (b j) all)
    ∙ ap (λ (fs : List Finding). fs ++ at_end (behind_all at_start es) all) (at_statements_with (saved_names es) at_start es)
