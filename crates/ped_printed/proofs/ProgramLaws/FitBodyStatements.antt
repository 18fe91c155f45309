-- Where nothing is refused at a statement, a plain one fits.
use Rattle.std.proofs.Common.{◌≡◌, ℕ, ◌+◌, List, [], ◌∷◌, ◌++◌, length, Bool, true, false, cond, Option, Some, None, refl, sym, ap, subst, ◌∙◌, arith, append-nil, eqb-true}
use Rattle.std.specs.Prelude.{IsTrue, nat_lt, nat_le, ◌&&◌, ◌||◌, not, is_none}
use Rattle.std.specs.List.{list_any}
use Rattle.std.proofs.lemmas.Bool.{and_from, or_from}
use Rattle.ped_lines.specs.ped_base.specs.Lists.{has_some}
use Rattle.ped_lines.specs.ped_tree.specs.Tree.{CondTree, StmtTree, StmtTrees, Assign, If, Do, Print, Read, Stop, Comment, no_stmts, more_stmts}
use Rattle.ped_lines.specs.ped_tree.specs.Numbering.{statement_count, statements_count}
use Rattle.ped_lines.specs.ped_tree.specs.Accesses.{own_accesses}
use Rattle.ped_lines.specs.ped_tree.specs.Printing.{own_text}
use Rattle.ped_lines.specs.ped_tree.specs.Grammar.Statement.{Statement}
use Rattle.ped_lines.specs.ped_tree.specs.Grammar.StatementForms.{assignment, print, read, stop, continue, StatementForm, program, implicit, integer, dimension, parameter, save, save_all, simple, if_simple, if_then, else_if_then, else_alone, end_of_if, do_loop, end_of_do, private, end, statement_item, ReadsItem}
use Rattle.ped_lines.specs.ped_tree.specs.Grammar.Items.{Item, declares, saves_all, does, continues, logical_if, block_if, else_if, else_line, end_if, begins_do, ends_do, keeps_private, ends_program, says, Entry}
use Rattle.ped_lines.specs.ped_tree.specs.Grammar.Occurrences.{do_variables}
use Rattle.ped_lines.specs.ped_tree.specs.Grammar.Contexts.{OpenLoop, Block, in_do, Context, is_stop, open_loops, open_variables, has_do, carries_open, without_do, left_by_label, left_by, blocks_behind}
use Rattle.ped_lines.specs.ped_tree.specs.Grammar.BlockForms.{PlainForm, a_simple, a_continue, a_logical_if, plain_item, plain_trees, entry, has_label, is_free}
use Rattle.ped_lines.specs.ped_tree.specs.Grammar.ProgramRefusals.{ends_badly, assigned_by, assigned_in, private_in, meets, stops, private_behind, loop_depth, block_depth, is_too_large, are_too_many, is_too_deep, has_many_references, is_too_long, at_statement}
use Rattle.ped_lines.specs.ped_tree.specs.Grammar.Fits.{Surroundings, in_if, stmt_fits}
use Rattle.ped_blocks.proofs.BlocksFound.{none_stands, left_empty, right_empty}
use Rattle.ped_printed.proofs.ProgramLaws.Fits.{is_simple, SimpleFits, simple_whole, BranchFits, if_whole}
use Rattle.ped_printed.proofs.ProgramLaws.FormsFit.{Said, said_fits}
use Rattle.ped_printed.proofs.ProgramLaws.KeptPrivate.{kept_in}
use Rattle.ped_printed.proofs.ProgramLaws.Standing.{loops_open}
use Rattle.ped_printed.proofs.ProgramLaws.Items.{some_open}
use Rattle.ped_printed.proofs.ProgramLaws.FitBodyLists.{IsSourced, Accepted, At, place, Fitting, entry_fitting, labels, left_none, none_open, free_left}

pub or_left : (a b : Bool) → (a || b) ≡ false → a ≡ false
or_left true b h = absurd cc
or_left false b h = refl

pub or_right : (a b : Bool) → (a || b) ≡ false → b ≡ false
or_right true b h = absurd cc
or_right false b h = h

-- the tests of a statement that stands within these blocks, all false, where these are the private names behind it
pub record Passed (saved ks : List (List ℕ)) (bs : List Block) (n : ℕ) (label : Option ℕ) (i : Item) (names : List (List ℕ)) : Type 0 where
  pub ends_well : ends_badly bs label (says i) ≡ false
  pub index : meets (assigned_in i ++ private_in i) (open_variables bs) ≡ false
  pub kept : kept_in (do_variables i) (open_loops bs) ≡ []
  pub stopping : (stops i && nat_lt 0 (loop_depth bs)) ≡ false
  pub small : is_too_large i ≡ false
  pub few : are_too_many n i ≡ false
  pub shallow : is_too_deep bs i ≡ false
  pub referring : has_many_references ks (open_variables bs) names i ≡ false
  pub short : is_too_long saved i ≡ false

passed_here : (saved : List (List ℕ)) (c : Context) (s : Statement) (i : Item) (rest : List Entry) → at_statement saved c (entry s i) rest ≡ []
    → Passed saved c.constants c.blocks c.statements s.label i (private_behind rest)
passed_here saved c s i rest h =
    let h8 = left_empty _ _ h in
    let h7 = left_empty _ _ h8 in
    let h6 = left_empty _ _ h7 in
    let h5 = left_empty _ _ h6 in
    let limits = none_stands _ _ _ (right_empty _ _ h) in
    let l4 = or_left _ (is_too_long saved i) limits in
    let l3 = or_left _ (has_many_references c.constants (open_variables c.blocks) (private_behind rest) i) l4 in
    let l2 = or_left _ (is_too_deep c.blocks i) l3 in
    record {
      ends_well = none_stands _ _ _ (right_empty _ _ h5);
      index = none_stands _ _ _ (right_empty _ _ h6);
      kept = right_empty _ _ h7;
      stopping = none_stands _ _ _ (right_empty _ _ h8);
      small = or_left _ (are_too_many c.statements i) l2;
      few = or_right (is_too_large i) _ l2;
      shallow = or_right (is_too_large i || are_too_many c.statements i) _ l3;
      referring = or_right (is_too_large i || are_too_many c.statements i || is_too_deep c.blocks i) _ l4;
      short = or_right (is_too_large i || are_too_many c.statements i || is_too_deep c.blocks i || has_many_references c.constants (open_variables c.blocks) (private_behind rest) i) _ limits;
    }

pub passed : (saved ks : List (List ℕ)) (bs : List Block) (n : ℕ) (c : Context) (s : Statement) (i : Item) (rest : List Entry) → At ks bs n c → Accepted saved c (entry s i ∷ rest)
    → Passed saved ks bs n s.label i (private_behind rest)
passed saved ks bs n c s i rest a h =
    let p = passed_here saved c s i rest (left_empty _ _ h.nothing_found) in
    subst (λ (x : List (List ℕ)). Passed saved x bs n s.label i (private_behind rest)) a.constants_are
    (subst (λ (x : List Block). Passed saved c.constants x n s.label i (private_behind rest)) a.blocks_are
    (subst (λ (x : ℕ). Passed saved c.constants c.blocks x s.label i (private_behind rest)) a.statements_are p))

-- at most one of them
abbrev are_simple : StmtTrees → Bool
are_simple no_stmts = true
are_simple (more_stmts s no_stmts) = is_simple s
are_simple (more_stmts s (more_stmts t rest)) = false

-- what an item does is simple
abbrev has_simple : Item → Bool
has_simple (declares d) = true
has_simple saves_all = true
has_simple (does s) = is_simple s
has_simple continues = true
has_simple (logical_if c s) = are_simple s
has_simple (block_if c) = true
has_simple (else_if c) = true
has_simple else_line = true
has_simple end_if = true
has_simple (begins_do label h) = true
has_simple ends_do = true
has_simple (keeps_private names) = true
has_simple ends_program = true

form_simple : (f : StatementForm) → has_simple (statement_item f) ≡ true
form_simple (program x is) = refl
form_simple implicit = refl
form_simple (integer d rest) = refl
form_simple (dimension a rest) = refl
form_simple (parameter c rest) = refl
form_simple (save names are) = refl
form_simple save_all = refl
form_simple (simple (assignment r e)) = refl
form_simple (simple (print items)) = refl
form_simple (simple (read items)) = refl
form_simple (simple stop) = refl
form_simple (simple continue) = refl
form_simple (if_simple c (assignment r e)) = refl
form_simple (if_simple c (print items)) = refl
form_simple (if_simple c (read items)) = refl
form_simple (if_simple c stop) = refl
form_simple (if_simple c continue) = refl
form_simple (if_then c) = refl
form_simple (else_if_then c) = refl
form_simple else_alone = refl
form_simple end_of_if = refl
form_simple (do_loop parallel label c) = refl
form_simple end_of_do = refl
form_simple (private names are) = refl
form_simple end = refl

reads_simple : (text : List ℕ) (i : Item) → ReadsItem text i → has_simple i ≡ true
reads_simple text i r = subst (λ (j : Item). has_simple j ≡ true) r.2 (form_simple r.0)

-- a simple statement is one statement
record IsOne (s : StmtTree) : Type 0 where
  counted : statement_count s ≡ 1
  fits : (p : Surroundings) → SimpleFits p s → stmt_fits p s ≡ true

is_one : (s : StmtTree) → is_simple s ≡ true → IsOne s
is_one (Assign l r) h = record { counted = refl; fits = λ p f. simple_whole p (Assign l r) refl f }
is_one (If c a b) h = absurd cc
is_one (Do k body) h = absurd cc
is_one (Print items) h = record { counted = refl; fits = λ p f. simple_whole p (Print items) refl f }
is_one (Read items) h = record { counted = refl; fits = λ p f. simple_whole p (Read items) refl f }
is_one Stop h = record { counted = refl; fits = λ p f. simple_whole p Stop refl f }
is_one (Comment text) h = absurd cc

few_one : (n k : ℕ) → k ≡ 1 → (nat_lt 0 k && nat_lt 4000 (n + k)) ≡ false → nat_lt 4000 (n + 1) ≡ false
few_one n k e h = subst (λ (k : ℕ). (nat_lt 0 k && nat_lt 4000 (n + k)) ≡ false) e h

no_more : (names : List (List ℕ)) (vs : List (List ℕ)) → meets (names ++ []) vs ≡ false → meets names vs ≡ false
no_more names vs h = ap (λ xs. meets xs vs) (sym (append-nil names)) ∙ h

no_stop : (b : Bool) (bs : List Block) → (b && nat_lt 0 (loop_depth bs)) ≡ false → (b && has_some (open_variables bs)) ≡ false
no_stop b bs h = ap (λ x. b && x) (sym (ap (nat_lt 0) (loops_open bs) ∙ some_open (open_variables bs))) ∙ h

simple_fits : (saved ks : List (List ℕ)) (bs : List Block) (d n : ℕ) (label : Option ℕ) (s : StmtTree) (names : List (List ℕ)) (text : List ℕ)
    → Said text (does s) → Passed saved ks bs n label (does s) names → stmt_fits (place ks bs d n) s ≡ true
simple_fits saved ks bs d n label s names text r h =
    let one = is_one s (reads_simple text (does s) r.0) in
    one.fits (place ks bs d n) (record {
      within = record {
        few = few_one n (statement_count s) one.counted h.few;
        referring = or_left _ false h.referring;
        short = or_left _ false h.short;
      };
      own = said_fits text (does s) r h.small;
      index = no_more (assigned_by s) (open_variables bs) h.index;
      stops = no_stop (is_stop s) bs h.stopping;
    })

-- a logical IF

few_if : (n k : ℕ) → (nat_lt 0 (k + 1) && nat_lt 4000 (n + (k + 1))) ≡ false → nat_lt 4000 (n + 1) ≡ false
few_if n k h = grind arith

few_behind_if : (n k : ℕ) → k ≡ 1 → (nat_lt 0 (k + 0 + 1) && nat_lt 4000 (n + (k + 0 + 1))) ≡ false → nat_lt 4000 (n + 1 + 1) ≡ false
few_behind_if n k e h = grind arith

logical_if_fits : (saved ks : List (List ℕ)) (bs : List Block) (d n : ℕ) (label : Option ℕ) (c : CondTree) (s : StmtTrees) (names : List (List ℕ)) (text : List ℕ)
    → block_depth bs ≡ d → Said text (logical_if c s) → Passed saved ks bs n label (logical_if c s) names → BranchFits (place ks bs d n) (If c s no_stmts)
logical_if_fits saved ks bs d n label c s names text deep r h =
    record {
      within = record { few = few_if n (statements_count s) h.few; referring = or_left _ _ h.referring; short = or_left _ _ h.short };
      own = (said_fits text (logical_if c s) r h.small).0;
      shallow = ap (λ k. nat_le 100 k) (sym deep) ∙ h.shallow;
    }

stopped : (a b : Bool) → ((a || false) && b) ≡ false → (a && b) ≡ false
stopped true b h = h
stopped false b h = h

behind_if_fits : (saved ks : List (List ℕ)) (bs : List Block) (d n : ℕ) (label : Option ℕ) (c : CondTree) (s : StmtTree) (names : List (List ℕ)) (text : List ℕ)
    → Said text (logical_if c (more_stmts s no_stmts)) → Passed saved ks bs n label (logical_if c (more_stmts s no_stmts)) names → stmt_fits (in_if (place ks bs d n) 1) s ≡ true
behind_if_fits saved ks bs d n label c s names text r h =
    let i = logical_if c (more_stmts s no_stmts) in
    let one = is_one s (reads_simple text i r.0) in
    let head : StmtTree = If c no_stmts no_stmts in
    one.fits (in_if (place ks bs d n) 1) (record {
      within = record {
        few = few_behind_if n (statement_count s) one.counted h.few;
        referring = or_left _ false (or_right (nat_lt 64 (length (own_accesses ks (open_variables bs) head))) _ h.referring);
        short = or_left _ false (or_right (nat_lt 1300 (length (own_text head))) _ h.short);
      };
      own = (said_fits text i r h.small).1;
      index = no_more (assigned_by s) (open_variables bs) (no_more (assigned_by s ++ []) (open_variables bs) h.index);
      stops = no_stop (is_stop s) bs (stopped (is_stop s) _ h.stopping);
    })

-- a plain statement takes the blocks on by its label alone

plain_left : (behind_do : Bool) (s : Statement) (p : PlainForm) (bs : List Block) → blocks_behind behind_do s (plain_item p) bs ≡ left_by s.label bs
plain_left behind_do s (a_simple t) bs = refl
plain_left behind_do s a_continue bs = refl
plain_left behind_do s (a_logical_if c t) bs = refl

pub free_blocks : (behind_do : Bool) (s : Statement) (p : PlainForm) (bs : List Block) → IsTrue (is_free (labels bs) s) → blocks_behind behind_do s (plain_item p) bs ≡ bs
free_blocks behind_do s p bs h = plain_left behind_do s p bs ∙ free_left s bs h

-- the label of the innermost loop ends it, and the loops round it that have this label

left_either : (b : Bool) (l : ℕ) (bs : List Block) → has_do l bs ≡ b → cond b (left_by_label l bs) bs ≡ left_by_label l bs
left_either true l bs h = refl
left_either false l bs h = sym (left_none l bs h)

-- a loop whose label a statement has
has_own : (l k : ℕ) (d : OpenLoop) → IsTrue (has_label (Some l) (Some k)) → d.label ≡ Some l → has_label d.label (Some k) ≡ true
has_own l k d e f = ap (λ (x : Option ℕ). has_label x (Some k)) f ∙ e

pub left_self : (l label : Option ℕ) (d : OpenLoop) (bs : List Block) → IsTrue (has_label l label) → d.label ≡ l → left_by label (in_do d ∷ bs) ≡ left_by l bs
left_self None label d bs e f = absurd cc
left_self (Some l) None d bs e f = absurd cc
left_self (Some l) (Some k) d bs e f =
    ap (λ b. cond (has_do k bs) (left_by_label k bs) (cond b bs (in_do d ∷ bs))) (has_own l k d e f)
    ∙ left_either (has_do k bs) k bs refl
    ∙ ap (λ x. left_by_label x bs) (eqb-true k l e)

pub ending_blocks : (behind_do : Bool) (s : Statement) (p : PlainForm) (l : Option ℕ) (d : OpenLoop) (bs : List Block) → IsTrue (has_label l s.label) → d.label ≡ l → blocks_behind behind_do s (plain_item p) (in_do d ∷ bs) ≡ left_by l bs
ending_blocks behind_do s p l d bs h f = plain_left behind_do s p (in_do d ∷ bs) ∙ left_self l s.label d bs h f

-- END DO ends the innermost loop, where that has no label or has that of the statement

not_carried : (label : Option ℕ) (d : OpenLoop) (bs : List Block) → IsTrue (is_none d.label) → IsTrue (not (list_any (λ m. has_label m label) (labels bs))) → carries_open label (in_do d ∷ bs) ≡ false
not_carried None d bs e h = refl
not_carried (Some k) d bs e h = or_from (has_label d.label (Some k)) (has_do k bs) (unlabelled d.label e) (none_open k bs h)
  where
    unlabelled : (l : Option ℕ) → IsTrue (is_none l) → has_label l (Some k) ≡ false
    unlabelled None e = refl
    unlabelled (Some l) e = absurd cc

carried : (l k : ℕ) (d : OpenLoop) (bs : List Block) → IsTrue (has_label (Some l) (Some k)) → d.label ≡ Some l → carries_open (Some k) (in_do d ∷ bs) ≡ true
carried l k d bs e f = ap (λ b. b || has_do k bs) (has_own l k d e f)

end_do_by : (label l : Option ℕ) (d : OpenLoop) (bs : List Block) → IsTrue (has_label l label || (is_none l && not (list_any (λ m. has_label m label) (l ∷ labels bs)))) → d.label ≡ l
    → cond (carries_open label (in_do d ∷ bs)) (left_by label (in_do d ∷ bs)) (without_do (in_do d ∷ bs)) ≡ left_by l bs
end_do_by label None d bs h f =
    let bare : is_none d.label ≡ true = ap is_none f in
    (let x = not_carried label d bs bare h in λ i. cond (x i) (left_by label (in_do d ∷ bs)) (cond (bare i) bs (in_do d ∷ bs)))
end_do_by None (Some l) d bs h f = absurd cc
end_do_by (Some k) (Some l) d bs h f =
    let e = or_nothing (has_label (Some l) (Some k)) h in
    ap (λ b. cond b (left_by_label k (in_do d ∷ bs)) (without_do (in_do d ∷ bs))) (carried l k d bs e f) ∙ left_self (Some l) (Some k) d bs e f
  where
    or_nothing : (a : Bool) → IsTrue (a || false) → IsTrue a
    or_nothing true h = refl
    or_nothing false h = absurd cc

pub end_do_blocks : (behind_do : Bool) (s : Statement) (l : Option ℕ) (d : OpenLoop) (bs : List Block) → IsTrue (has_label l s.label || (is_none l && is_free (l ∷ labels bs) s)) → d.label ≡ l → blocks_behind behind_do s ends_do (in_do d ∷ bs) ≡ left_by l bs
end_do_blocks behind_do s l d bs h f = end_do_by s.label l d bs h f

-- a plain statement fits

one_more : (k a : ℕ) → k ≡ a → k ≡ a + 0
one_more k a e = omega (arith, e)

if_counted : (k : ℕ) → k + 0 + 1 ≡ k + 0 + 0 + 1 + 0
if_counted k = omega arith

pub plain_fitting : (saved ks : List (List ℕ)) (bs : List Block) (d n : ℕ) (c : Context) (s : Statement) (p : PlainForm) (rest : List Entry) (cs : List Block)
    → block_depth bs ≡ d → At ks bs n c → Accepted saved c (entry s (plain_item p) ∷ rest) → IsSourced (entry s (plain_item p)) → blocks_behind c.behind_do s (plain_item p) bs ≡ cs
    → Fitting ks bs d n c (plain_trees p) (entry s (plain_item p) ∷ []) cs
plain_fitting saved ks bs d n c s (a_simple t) rest cs e a h r blocks =
    let tests = passed saved ks bs n c s (does t) rest a h in
    entry_fitting ks bs d n c s (does t) (t ∷ []) cs refl (one_more _ _ refl) blocks a
    (simple_fits saved ks bs d n s.label t (private_behind rest) r.text r.reads tests, tt)
plain_fitting saved ks bs d n c s a_continue rest cs e a h r blocks = entry_fitting ks bs d n c s continues [] cs refl refl blocks a tt
plain_fitting saved ks bs d n c s (a_logical_if k no_stmts) rest cs e a h r blocks =
    let i = logical_if k no_stmts in
    let tests = passed saved ks bs n c s i rest a h in
    let whole = if_whole (place ks bs d n) k no_stmts no_stmts (record { branch = logical_if_fits saved ks bs d n s.label k no_stmts (private_behind rest) r.text e r.reads tests; then_part = refl; else_part = refl }) in
    entry_fitting ks bs d n c s i (If k no_stmts no_stmts ∷ []) cs refl refl blocks a (whole, tt)
plain_fitting saved ks bs d n c s (a_logical_if k (more_stmts t no_stmts)) rest cs e a h r blocks =
    let ts = more_stmts t no_stmts in
    let i = logical_if k ts in
    let tests = passed saved ks bs n c s i rest a h in
    let behind_if = and_from _ true (behind_if_fits saved ks bs d n s.label k t (private_behind rest) r.text r.reads tests) refl in
    let whole = if_whole (place ks bs d n) k ts no_stmts (record { branch = logical_if_fits saved ks bs d n s.label k ts (private_behind rest) r.text e r.reads tests; then_part = behind_if; else_part = refl }) in
    entry_fitting ks bs d n c s i (If k ts no_stmts ∷ []) cs refl (if_counted (statement_count t)) blocks a (whole, tt)
plain_fitting saved ks bs d n c s (a_logical_if k (more_stmts t (more_stmts u ts))) rest cs e a h r blocks =
    absurd (let y = reads_simple r.text (logical_if k (more_stmts t (more_stmts u ts))) r.reads.0 in cc)
