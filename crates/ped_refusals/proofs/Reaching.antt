-- How far the first refusal of statements has been found.
use Rattle.std.proofs.Common.{◌≡◌, ℕ, ◌+◌, ◌≤◌, nat_le, not, true, List, [], ◌∷◌, ◌++◌, length, Option, None, refl, sym, ap, subst, ◌∙◌, arith}
use Rattle.std.specs.List.{flat_map}
use Rattle.ped_tree.specs.Grammar.Refusal.{Finding, OpenBlock, Syntax, refused_if, earliest, first_of}
use Rattle.ped_tree.specs.Grammar.Statement.{Statements}
use Rattle.ped_tree.specs.Grammar.Occurrences.{saved_names}
use Rattle.ped_tree.proofs.GrammarLaws.First.{earliest_append}
use Rattle.ped_tree.specs.Grammar.Items.{Entry}
use Rattle.ped_tree.specs.Grammar.Contexts.{Context, at_start, behind, behind_all}
use Rattle.ped_tree.specs.Grammar.ProgramRefusals.{block_depth, at_statement, at_statements, at_end, program_refusals}
use Rattle.ped_refusals.specs.OpenContexts.{IsLike}
use Rattle.ped_refusals.proofs.Depths.{deeper}
use Rattle.ped_refusals.proofs.Likeness.{like_itself, like_through, behind_like, statement_like}

pub none_left : {X : Type 0} → (xs : List X) → length xs ≡ 0 → xs ≡ []
none_left [] h = refl
none_left (x ∷ xs) h = absurd (omega arith)

-- what was found is the first up to these statements, whose context is like this one
pub record Reached (saved : List (List ℕ)) (all : List Entry) (code : Context) (found : Option Finding) (left : List Entry) : Type 0 where
  pub context : Context
  pub like : IsLike context code
  pub first : earliest found (at_statements saved context left) ≡ earliest None (at_statements saved at_start all)
  pub last : behind_all context left ≡ behind_all at_start all
  pub depth : block_depth context.blocks + length left ≤ length all

-- at the first statement
pub reached_start : (saved : List (List ℕ)) (all : List Entry) (code : Context) → code ≡ at_start → Reached saved all code None all
reached_start saved all code h = record {
  context = at_start;
  like = subst (λ (c : Context). IsLike at_start c) (sym h) (like_itself at_start);
  first = refl;
  last = refl;
  depth = omega arith;
}

-- one statement more
pub reached_more : (saved : List (List ℕ)) (all : List Entry) (code more : Context) (found next : Option Finding) (e : Entry) (rest left : List Entry) → left ≡ e ∷ rest → Reached saved all code found left
    → next ≡ earliest found (at_statement saved code e rest) → IsLike (behind code e) more → Reached saved all more next rest
reached_more saved all code more found next e rest left at r h k =
    let c = r.context in
    let first : earliest found (at_statements saved c (e ∷ rest)) ≡ earliest None (at_statements saved at_start all) = ap (λ (es : List Entry). earliest found (at_statements saved c es)) (sym at) ∙ r.first in
    let last : behind_all c (e ∷ rest) ≡ behind_all at_start all = ap (behind_all c) (sym at) ∙ r.last in
    let many : length left ≡ length rest + 1 = omega (arith, ap length at) in
    let depths : block_depth (behind c e).blocks ≤ block_depth c.blocks + 1 = deeper c e in
    let depth_left : block_depth c.blocks + length left ≤ length all = r.depth in
    record {
      context = behind c e;
      like = like_through (behind c e) (behind code e) more (behind_like c code e r.like) k;
      first = ap (λ (f : Option Finding). earliest f (at_statements saved (behind c e) rest)) (h ∙ ap (earliest found) (statement_like saved c code e rest r.like))
          ∙ sym (earliest_append found (at_statement saved c e rest) (at_statements saved (behind c e) rest)) ∙ first;
      last = last;
      depth = omega arith;
    }

-- no END has come where none has come in a context that is alike
same_end : (c d : Context) (all : Statements) → c.phase ≡ d.phase → at_end d all ≡ at_end c all
same_end c d all h = λ i. refused_if (not (nat_le 5 (sym h i))) OpenBlock all.lines ++ flat_map (λ d. refused_if true Syntax d.line) all.directives

-- behind the last statement
pub reached_end : (saved : List (List ℕ)) (entries : List Entry) (code : Context) (found next : Option Finding) (left : List Entry) (all : Statements) → left ≡ [] → Reached saved entries code found left
    → next ≡ earliest found (at_end code all) → saved ≡ saved_names entries → next ≡ first_of (program_refusals all entries)
reached_end saved entries code found next left all at r h names =
    let c = r.context in
    let first : found ≡ earliest None (at_statements saved at_start entries) = ap (λ (es : List Entry). earliest found (at_statements saved c es)) (sym at) ∙ r.first in
    let last : c ≡ behind_all at_start entries = ap (behind_all c) (sym at) ∙ r.last in
    h ∙ ap (earliest found) (same_end c code all r.like.phase)
    ∙ (λ i. earliest (first i) (at_end (last i) all))
    ∙ sym (earliest_append None (at_statements saved at_start entries) (at_end (behind_all at_start entries) all))
    ∙ ap (λ (s : List (List ℕ)). earliest None (at_statements s at_start entries ++ at_end (behind_all at_start entries) all)) names
