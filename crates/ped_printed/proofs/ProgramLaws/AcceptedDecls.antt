-- The declarations of a printed program are accepted one behind the other, and so is the whole program.
use Rattle.std.proofs.Common.{◌≡◌, ℕ, ◌+◌, List, [], ◌∷◌, ◌++◌, map, max, None, Bool, true, false, refl, sym, ap, ◌∙◌, append_assoc, append-nil, subst, arith}
use Rattle.std.specs.Prelude.{codes, not, ◌&&◌, ◌||◌, nat_lt, nat_le}
use Rattle.std.specs.List.{flat_map}
use Rattle.std.proofs.lemmas.Bool.{and_parts}
use Rattle.ped_lines.specs.ped_tree.specs.Tree.{DeclTree, Program, Implicit, Integer, Dimension, Parameter, Save, Remark, ProgramTree}
use Rattle.ped_lines.specs.ped_tree.specs.Accesses.{constants_in, constant_names}
use Rattle.ped_lines.specs.ped_base.specs.Lists.{has_some}
use Rattle.ped_lines.specs.ped_tree.specs.Printing.{decl_text}
use Rattle.ped_lines.specs.ped_tree.specs.Grammar.Refusal.{Finding, Syntax, OpenBlock, refused_if, first_of}
use Rattle.ped_lines.specs.ped_tree.specs.Grammar.Statement.{Note, Statements}
use Rattle.ped_lines.specs.ped_tree.specs.Grammar.Items.{declares, ends_program, says, Entry}
use Rattle.ped_lines.specs.ped_tree.specs.Grammar.Occurrences.{saved_names}
use Rattle.ped_lines.specs.ped_tree.specs.Grammar.Contexts.{Block, Context, at_start, decl_rank, is_save, open_loops, open_variables, behind, behind_all}
use Rattle.ped_lines.specs.ped_tree.specs.Grammar.BlockForms.{entry}
use Rattle.ped_lines.specs.ped_tree.specs.Grammar.ProgramRefusals.{is_out_of_order, is_behind_end, breaks_syntax, leaves_open, block_depth, is_too_large, is_too_long, at_statement, at_statements, at_end, program_refusals}
use Rattle.ped_printed.proofs.ProgramLaws.Pieces.{decl_piece, end_piece, statements_pieces, Spot, statement_here, behind_piece, entry_here, entries_here, behind_both, entries_both}
use Rattle.ped_printed.proofs.ProgramLaws.Trees.{rejections}
use Rattle.ped_printed.proofs.ProgramLaws.WholeForm.{start, body_spot, ending_spot, whole_entries, decls_only}
use Rattle.ped_lines.specs.ped_tree.specs.Grammar.Fits.{Surroundings, comment_fits, stmts_fit, decls_fit, begins_with_statement, at_body, fits}
use Rattle.ped_printed.proofs.ProgramLaws.Fits.{DeclarationFits, declaration_parts}
use Rattle.ped_printed.proofs.ProgramLaws.FormsOf.{declared_small, declared_few}
use Rattle.ped_printed.proofs.ProgramLaws.KeptPrivate.{open_private, kept_never}
use Rattle.ped_printed.proofs.ProgramLaws.Standing.{Stands, early, passes_all, undirected}
use Rattle.ped_printed.proofs.ProgramLaws.Items.{within_limit, or_none}
use Rattle.ped_printed.proofs.ProgramLaws.Accepted.{pass_stmts, only_all}

-- among the declarations
record Declaring (ks : List (List ℕ)) (phase : ℕ) (c : Context) : Type 0 where
  constants : c.constants ≡ ks
  reached : c.phase ≡ phase
  early : nat_le phase 3 ≡ true
  blocks : c.blocks ≡ []
  statements : c.statements ≡ 0
  everything : c.saves_everything ≡ false

-- a declaration that is accepted
record OnePassed (saved : List (List ℕ)) (c : Context) (ks : List (List ℕ)) (phase : ℕ) (es rest : List Entry) : Type 0 where
  after : Context
  accepted : at_statements saved c (es ++ rest) ≡ at_statements saved after rest
  position : Declaring ks phase after

-- declarations that are accepted one behind the other
record DeclsPassed (saved : List (List ℕ)) (c : Context) (ks : List (List ℕ)) (es rest : List Entry) : Type 0 where
  after : Context
  phase : ℕ
  accepted : at_statements saved c (es ++ rest) ≡ at_statements saved after rest
  position : Declaring ks phase after

before_end : (phase : ℕ) → nat_le phase 3 ≡ true → nat_le 5 phase ≡ false
before_end phase h = grind arith

and_none : (b : Bool) → (b && false) ≡ false
and_none true = refl
and_none false = refl

-- one declaration, whose rank is the phase behind it
pass_decl : (saved ks : List (List ℕ)) (phase : ℕ) (c : Context) (q : Spot) (d : DeclTree) (rest : List Entry) → Declaring ks phase c → rejections q.notes ≡ [] → DeclarationFits phase d
    → nat_le (decl_rank d) 3 ≡ true → max phase (decl_rank d) ≡ decl_rank d
    → OnePassed saved c (ks ++ constants_in d) (decl_rank d) (entry (statement_here q 0 (decl_text d)) (declares d) ∷ []) rest
pass_decl saved ks phase c q d rest at only fits low high =
    let i = declares d in
    let e = entry (statement_here q 0 (decl_text d)) i in
    let ended : is_behind_end c ≡ false = ap (nat_le 5) at.reached ∙ before_end phase at.early in
    let order : is_out_of_order c.phase (decl_rank d) ≡ false = ap (λ n. is_out_of_order n (decl_rank d)) at.reached ∙ fits.ordered in
    let again : (is_save d && c.saves_everything) ≡ false = ap (λ (b : Bool). is_save d && b) at.everything ∙ and_none (is_save d) in
    let placed : breaks_syntax c None (says i) ≡ false = λ j. not false && (ended j || false || (order j || false || false || (again j || (false && (c.saves_names || c.saves_everything))) || false)) in
    let large : is_too_large i ≡ false = (let a = declared_small d fits.declares in let b = declared_few d fits.declares in λ j. a j || b j) in
    let long : is_too_long saved i ≡ false = or_none _ fits.short in
    let ok = passes_all saved c e rest (undirected c e q.line q.notes refl only) placed refl refl refl refl (kept_never (open_loops c.blocks)) refl (within_limit saved c rest i large refl refl refl long) in
    record {
      after = behind c e;
      accepted = ap (λ (fs : List Finding). fs ++ at_statements saved (behind c e) rest) ok;
      position = record {
        constants = ap (λ (xs : List (List ℕ)). xs ++ constants_in d) at.constants;
        reached = ap (λ n. max n (decl_rank d)) at.reached ∙ high;
        early = low;
        blocks = at.blocks;
        statements = ap (λ n. n + 0) at.statements;
        everything = ap (λ (b : Bool). b || false) at.everything;
      };
    }

first_high : (phase : ℕ) → nat_le 1 phase ≡ false → max phase 1 ≡ 1
first_high phase h = grind arith

second_high : (phase : ℕ) → nat_le 2 phase ≡ false → max phase 2 ≡ 2
second_high phase h = grind arith

third_high : (phase : ℕ) → nat_lt 3 phase ≡ false → max phase 3 ≡ 3
third_high phase h = grind arith

-- a declaration, and those behind it as a function of what is open there
step : (saved ks : List (List ℕ)) (phase : ℕ) (c : Context) (q : Spot) (d : DeclTree) (ds : List DeclTree) (rest : List Entry)
    → OnePassed saved c (ks ++ constants_in d) phase (entry_here q (decl_piece d)) (entries_here (behind_piece q (decl_piece d)) (map decl_piece ds) ++ rest)
    → ((a : Context) → Declaring (ks ++ constants_in d) phase a → DeclsPassed saved a (ks ++ constants_in d ++ constant_names ds) (entries_here (behind_piece q (decl_piece d)) (map decl_piece ds)) rest)
    → DeclsPassed saved c (ks ++ constant_names (d ∷ ds)) (entries_here q (map decl_piece (d ∷ ds))) rest
step saved ks phase c q d ds rest a more =
    let es = entry_here q (decl_piece d) in
    let fs = entries_here (behind_piece q (decl_piece d)) (map decl_piece ds) in
    let b = more a.after a.position in
    record {
      after = b.after;
      phase = b.phase;
      accepted = ap (λ (gs : List Entry). at_statements saved c gs) (append_assoc es fs rest) ∙ a.accepted ∙ b.accepted;
      position = subst (λ (xs : List (List ℕ)). Declaring xs b.phase b.after) (append_assoc ks (constants_in d) (constant_names ds)) b.position;
    }

-- a comment among declarations
comments_only : (q : Spot) (text : List ℕ) → rejections q.notes ≡ [] → rejections (behind_piece q (decl_piece (Remark text))).notes ≡ []
comments_only q text h = decls_only q (Remark text ∷ []) h

pass_decls : (saved ks : List (List ℕ)) (phase : ℕ) (c : Context) (q : Spot) (ds : List DeclTree) (rest : List Entry) → Declaring ks phase c → rejections q.notes ≡ [] → decls_fit phase ds ≡ true
    → DeclsPassed saved c (ks ++ constant_names ds) (entries_here q (map decl_piece ds)) rest
pass_decls saved ks phase c q [] rest at only fits = record { after = c; phase = phase; accepted = refl; position = subst (λ (xs : List (List ℕ)). Declaring xs phase c) (sym (append-nil ks)) at }
pass_decls saved ks phase c q (Program x ∷ ds) rest at only fits =
    let d = Program x in
    let r = behind_piece q (decl_piece d) in
    let f = declaration_parts phase d ds refl fits in
    step saved ks 1 c q d ds rest (pass_decl saved ks phase c q d (entries_here r (map decl_piece ds) ++ rest) at only f.0 refl (first_high phase f.0.ordered))
    (λ a h. pass_decls saved (ks ++ constants_in d) 1 a r ds rest h refl f.1)
pass_decls saved ks phase c q (Implicit ∷ ds) rest at only fits =
    let d = Implicit in
    let r = behind_piece q (decl_piece d) in
    let f = declaration_parts phase d ds refl fits in
    step saved ks 2 c q d ds rest (pass_decl saved ks phase c q d (entries_here r (map decl_piece ds) ++ rest) at only f.0 refl (second_high phase f.0.ordered))
    (λ a h. pass_decls saved (ks ++ constants_in d) 2 a r ds rest h refl f.1)
pass_decls saved ks phase c q (Integer xs ∷ ds) rest at only fits =
    let d = Integer xs in
    let r = behind_piece q (decl_piece d) in
    let f = declaration_parts phase d ds refl fits in
    step saved ks 3 c q d ds rest (pass_decl saved ks phase c q d (entries_here r (map decl_piece ds) ++ rest) at only f.0 refl (third_high phase f.0.ordered))
    (λ a h. pass_decls saved (ks ++ constants_in d) 3 a r ds rest h refl f.1)
pass_decls saved ks phase c q (Dimension xs ∷ ds) rest at only fits =
    let d = Dimension xs in
    let r = behind_piece q (decl_piece d) in
    let f = declaration_parts phase d ds refl fits in
    step saved ks 3 c q d ds rest (pass_decl saved ks phase c q d (entries_here r (map decl_piece ds) ++ rest) at only f.0 refl (third_high phase f.0.ordered))
    (λ a h. pass_decls saved (ks ++ constants_in d) 3 a r ds rest h refl f.1)
pass_decls saved ks phase c q (Parameter vs ∷ ds) rest at only fits =
    let d = Parameter vs in
    let r = behind_piece q (decl_piece d) in
    let f = declaration_parts phase d ds refl fits in
    step saved ks 3 c q d ds rest (pass_decl saved ks phase c q d (entries_here r (map decl_piece ds) ++ rest) at only f.0 refl (third_high phase f.0.ordered))
    (λ a h. pass_decls saved (ks ++ constants_in d) 3 a r ds rest h refl f.1)
pass_decls saved ks phase c q (Save names ∷ ds) rest at only fits =
    let d = Save names in
    let r = behind_piece q (decl_piece d) in
    let f = declaration_parts phase d ds refl fits in
    step saved ks 3 c q d ds rest (pass_decl saved ks phase c q d (entries_here r (map decl_piece ds) ++ rest) at only f.0 refl (third_high phase f.0.ordered))
    (λ a h. pass_decls saved (ks ++ constants_in d) 3 a r ds rest h refl f.1)
pass_decls saved ks phase c q (Remark text ∷ ds) rest at only fits =
    pass_decls saved ks phase c (behind_piece q (decl_piece (Remark text))) ds rest at (comments_only q text only) (and_parts (comment_fits text) (decls_fit phase ds) fits).1

from_decls : (phase : ℕ) → nat_le phase 3 ≡ true → nat_le phase 4 ≡ true
from_decls phase h = grind arith

not_past_end : (phase : ℕ) → nat_le phase 4 ≡ true → nat_lt 5 phase ≡ false
not_past_end phase h = grind arith

past_end : (phase : ℕ) → nat_le 5 (max phase 5) ≡ true
past_end phase = grind arith

-- END
end_passes : (saved : List (List ℕ)) (c : Context) (p : Surroundings) (q : Spot) → Stands p c → c.blocks ≡ [] → rejections q.notes ≡ [] → at_statement saved c (entry (statement_here q 0 (codes "END")) ends_program) [] ≡ []
end_passes saved c p q at none only =
    let i = ends_program in
    let e = entry (statement_here q 0 (codes "END")) i in
    let ended = early c.phase at.phase in
    let order = not_past_end c.phase at.phase in
    let placed : breaks_syntax c None (says i) ≡ false = λ j. not false && (ended j || false || (order j || false || false || ((false && c.saves_everything) || (false && (c.saves_names || c.saves_everything))) || false)) in
    let closed : leaves_open c.blocks i ≡ false = ap (λ (bs : List Block). has_some bs) none in
    passes_all saved c e [] (undirected c e q.line q.notes refl only) placed refl closed refl refl (kept_never (open_loops c.blocks)) refl (within_limit saved c [] i refl refl refl refl refl)

-- behind the last statement

behind_last : (c : Context) (es : List Entry) (e : Entry) → behind_all c (es ++ e ∷ []) ≡ behind (behind_all c es) e
behind_last c [] e = refl
behind_last c (x ∷ xs) e = behind_last (behind c x) xs e

stands_not : (line : ℕ) (test : Bool) → test ≡ true → refused_if (not test) OpenBlock line ≡ []
unfolding refused_if
stands_not line true h = refl
stands_not line false h = absurd cc

-- no statement of a printed program that fits is refused
pub whole_accepted : (t : ProgramTree) (all : Statements) → fits t ≡ true → all.directives ≡ [] → first_of (program_refusals all (whole_entries t)) ≡ None
whole_accepted t all h none =
    let parts = and_parts _ (begins_with_statement t.body) h in
    let f = and_parts (decls_fit 0 t.decls) (stmts_fit (at_body t) t.body) parts.0 in
    let saved = saved_names (whole_entries t) in
    let ds = map decl_piece t.decls in
    let ss = statements_pieces 0 t.body in
    let p = body_spot t in
    let q = ending_spot t in
    let e = entry (statement_here q 0 (codes "END")) ends_program in
    let ed = entries_here start ds in
    let es = entries_here p ss in
    let last : List Entry = e ∷ [] in
    let clear = decls_only start t.decls refl in
    let first = pass_decls saved [] 0 at_start start t.decls (es ++ last ++ []) (record { constants = refl; reached = refl; early = refl; blocks = refl; statements = refl; everything = refl }) refl f.0 in
    let at : Stands (at_body t) first.after = record {
      constants = first.position.constants;
      variables = ap open_variables first.position.blocks;
      private = ap open_private first.position.blocks;
      depth = ap block_depth first.position.blocks;
      statements = first.position.statements;
      phase = ap (λ n. nat_le n 4) first.position.reached ∙ from_decls first.phase first.position.early;
    } in
    let second = pass_stmts saved first.after (at_body t) 0 p t.body (last ++ []) at clear f.1 in
    let ok = end_passes saved second.after _ q second.position (second.blocks ∙ first.position.blocks) (only_all 0 p t.body clear) in
    let third : at_statements saved second.after (e ∷ []) ≡ [] = ap (λ (fs : List Finding). fs ++ []) ok in
    let entries : whole_entries t ≡ ed ++ es ++ last =
    entries_both start (ds ++ ss) (end_piece ∷ [])
    ∙ (λ i. entries_both start ds ss i ++ entries_here (behind_both start ds ss i) (end_piece ∷ [])) in
    let statements : at_statements saved at_start (whole_entries t) ≡ [] =
    ap (λ (xs : List Entry). at_statements saved at_start xs) (entries ∙ append_assoc ed es last)
    ∙ ap (λ (xs : List Entry). at_statements saved at_start xs) (sym (append-nil (ed ++ (es ++ last))) ∙ append_assoc ed (es ++ last) [])
    ∙ first.accepted ∙ ap (λ (xs : List Entry). at_statements saved first.after xs) (append_assoc es last []) ∙ second.accepted ∙ third in
    let ended : is_behind_end (behind_all at_start (whole_entries t)) ≡ true =
    ap (λ (xs : List Entry). is_behind_end (behind_all at_start xs)) entries
    ∙ ap is_behind_end (behind_last at_start (ed ++ es) e)
    ∙ past_end (behind_all at_start (ed ++ es)).phase in
    let ending : at_end (behind_all at_start (whole_entries t)) all ≡ [] =
    (let a = stands_not all.lines (is_behind_end (behind_all at_start (whole_entries t))) ended in
    let b = ap (λ (ns : List Note). flat_map (λ (d : Note). refused_if true Syntax d.line) ns) none in
    λ i. a i ++ b i) in
    (λ i. first_of (statements i ++ ending i))
