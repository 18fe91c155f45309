-- Contexts that are alike have the same refusals.
use Rattle.std.proofs.Common.{◌≡◌, ℕ, ◌+◌, Bool, ◌&&◌, ◌||◌, nat_lt, max, List, ◌++◌, length, refl, sym, ap, ◌∙◌, arith}
use Rattle.std.specs.List.{list_any}
use Rattle.ped_print.specs.Lengths.{limited}
use Rattle.ped_base.specs.Lists.{is_among}
use Rattle.ped_tree.specs.Grammar.LimitNumbers.{most_references, most_statements}
use Rattle.ped_tree.specs.Grammar.Items.{Item, Reading, says, outside_profile, no_form, Entry}
use Rattle.ped_tree.specs.Grammar.Contexts.{Block, Context, rank, numbered_in, saves_list, saves_without, left_by, blocks_behind, behind, open_variables}
use Rattle.ped_tree.specs.Grammar.Occurrences.{constants_of}
use Rattle.ped_tree.specs.Grammar.Refusal.{Finding, Syntax, NotInProfile, OpenBlock, BadTerminal, IndexAssigned, StopPlace, Limit, refused_if}
use Rattle.ped_tree.specs.Grammar.ProgramRefusals.{at_directives, at_private, at_statement, breaks_syntax, is_left_out, where_it_says, leaves_open, ends_badly, assigns_index, stops, loop_depth, passes_limit, is_too_large, are_too_many, is_too_deep, has_many_references, statements_of_item, is_too_long, private_behind}
use Rattle.ped_limits.proofs.SameNames.{among_append, same_accesses}
use Rattle.ped_refusals.specs.OpenContexts.{IsLike}

pub like_itself : (c : Context) → IsLike c c
like_itself c = record { phase = refl; blocks = refl; statements = refl; constants = λ x. refl; saves_names = refl; saves_everything = refl; behind_do = refl }

pub like_through : (c d e : Context) → IsLike c d → IsLike d e → IsLike c e
like_through c d e h k = record {
  phase = h.phase ∙ k.phase;
  blocks = h.blocks ∙ k.blocks;
  statements = h.statements ∙ k.statements;
  constants = λ x. h.constants x ∙ k.constants x;
  saves_names = h.saves_names ∙ k.saves_names;
  saves_everything = h.saves_everything ∙ k.saves_everything;
  behind_do = h.behind_do ∙ k.behind_do;
}

limited_more : (m n k : ℕ) → limited m ≡ limited n → limited (m + k) ≡ limited (n + k)
limited_more m n k h = omega arith

-- so are those behind a statement
pub behind_like : (c d : Context) (e : Entry) → IsLike c d → IsLike (behind c e) (behind d e)
behind_like c d e h = by e.reading where
  by : (r : Reading) → IsLike (behind c record { statement = e.statement; reading = r }) (behind d record { statement = e.statement; reading = r })
  by (says i) = record {
    phase = ap (λ (n : ℕ). max n (rank i)) h.phase;
    blocks = λ j. blocks_behind (h.behind_do j) e.statement i (h.blocks j);
    statements = limited_more c.statements d.statements (numbered_in i) h.statements;
    constants = λ x. among_append x c.constants (constants_of i) ∙ ap (λ (b : Bool). b || is_among x (constants_of i)) (h.constants x) ∙ sym (among_append x d.constants (constants_of i));
    saves_names = ap (λ (b : Bool). b || saves_list i) h.saves_names;
    saves_everything = ap (λ (b : Bool). b || saves_without i) h.saves_everything;
    behind_do = refl;
  }
  by outside_profile = record { phase = h.phase; blocks = ap (left_by e.statement.label) h.blocks; statements = h.statements; constants = h.constants; saves_names = h.saves_names; saves_everything = h.saves_everything; behind_do = refl }
  by no_form = record { phase = h.phase; blocks = ap (left_by e.statement.label) h.blocks; statements = h.statements; constants = h.constants; saves_names = h.saves_names; saves_everything = h.saves_everything; behind_do = refl }

many_like : (s t n : ℕ) → limited s ≡ limited t → nat_lt 0 n && nat_lt most_statements (t + n) ≡ nat_lt 0 n && nat_lt most_statements (s + n)
many_like s t n h = grind arith

-- the same limits are passed
limits_like : (saved : List (List ℕ)) (c d : Context) (rest : List Entry) (i : Item) → IsLike c d → passes_limit saved d rest i ≡ passes_limit saved c rest i
limits_like saved c d rest i h =
    let private = private_behind rest in
    let many : are_too_many d.statements i ≡ are_too_many c.statements i = many_like c.statements d.statements (numbered_in i) h.statements in
    let references : has_many_references d.constants (open_variables d.blocks) private i ≡ has_many_references c.constants (open_variables c.blocks) private i =
    λ j. list_any (λ s. nat_lt most_references (length (same_accesses d.constants c.constants (open_variables d.blocks) (open_variables c.blocks) (λ x. sym (h.constants x)) (λ x. ap (λ (bs : List Block). is_among x (open_variables bs)) (sym h.blocks)) s j))) (statements_of_item private i) in
    λ j. is_too_large i
    || many j
    || is_too_deep (sym h.blocks j) i
    || references j
    || is_too_long saved i

readings_like : (saved : List (List ℕ)) (c d : Context) (rest : List Entry) (r : Reading) → IsLike c d → where_it_says (passes_limit saved d rest) r ≡ where_it_says (passes_limit saved c rest) r
readings_like saved c d rest (says i) h = limits_like saved c d rest i h
readings_like saved c d rest outside_profile h = refl
readings_like saved c d rest no_form h = refl

-- a context with another one's constants and number of statements
abbrev mixed : Context → Context → Context
mixed c d = record d { constants = c.constants; statements = c.statements }

mixed_is : (c d : Context) → IsLike c d → mixed c d ≡ c
mixed_is c d h = λ i. record {
  phase = sym h.phase i;
  blocks = sym h.blocks i;
  statements = c.statements;
  constants = c.constants;
  saves_names = sym h.saves_names i;
  saves_everything = sym h.saves_everything i;
  behind_do = sym h.behind_do i;
}

-- what stands at a statement, where it is known whether a limit is passed there
abbrev standing_at : Bool → Context → Entry → List Finding
standing_at passes c e =
    at_directives c e
    ++ refused_if (breaks_syntax c e.statement.label e.reading) Syntax e.statement.line
    ++ refused_if (is_left_out e.reading) NotInProfile e.statement.line
    ++ refused_if (where_it_says (leaves_open c.blocks) e.reading) OpenBlock e.statement.line
    ++ refused_if (ends_badly c.blocks e.statement.label e.reading) BadTerminal e.statement.line
    ++ refused_if (assigns_index c e.reading) IndexAssigned e.statement.line
    ++ at_private c e.reading
    ++ refused_if (where_it_says stops e.reading && nat_lt 0 (loop_depth c.blocks)) StopPlace e.statement.line
    ++ refused_if passes Limit e.statement.line

-- the same stands at a statement
pub statement_like : (saved : List (List ℕ)) (c d : Context) (e : Entry) (rest : List Entry) → IsLike c d → at_statement saved d e rest ≡ at_statement saved c e rest
statement_like saved c d e rest h =
    ap (λ (x : Context). standing_at (where_it_says (passes_limit saved d rest) e.reading) x e) (mixed_is c d h)
    ∙ ap (λ (passes : Bool). standing_at passes c e) (readings_like saved c d rest e.reading h)
