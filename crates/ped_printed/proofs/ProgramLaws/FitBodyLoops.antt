-- A DO at which nothing is refused fits where its body does.
use Rattle.std.proofs.Common.{◌≡◌, ℕ, ◌+◌, List, [], ◌∷◌, ◌++◌, Bool, true, false, cond, Option, refl, sym, ap, subst, ◌∙◌, arith, append_assoc}
use Rattle.std.specs.Prelude.{IsTrue, nat_le}
use Rattle.std.specs.List.{list_all}
use Rattle.std.proofs.lemmas.Bool.{and_from}
use Rattle.ped_lines.specs.ped_tree.specs.Tree.{Head, StmtTree, StmtTrees, Do}
use Rattle.ped_lines.specs.ped_tree.specs.Views.{pack_stmts}
use Rattle.ped_lines.specs.ped_tree.specs.Grammar.Words.{is_name}
use Rattle.ped_lines.specs.ped_tree.specs.Grammar.Statement.{Statement}
use Rattle.ped_lines.specs.ped_tree.specs.Grammar.Items.{begins_do, keeps_private, Entry}
use Rattle.ped_lines.specs.ped_tree.specs.Grammar.Occurrences.{rejected_names}
use Rattle.ped_lines.specs.ped_tree.specs.Grammar.Contexts.{OpenLoop, Block, in_do, Context, open_loops, begun, left_by, with_private, blocks_behind, behind}
use Rattle.ped_lines.specs.ped_tree.specs.Grammar.BlockForms.{a_simple, a_continue, a_logical_if, PrivateForm, no_private, private_list, BodyForm, nothing, and_then, PartForm, a_plain, an_if, a_do, loop, EndingForm, at_plain, at_end_do, with_inner, entry, private_entries, body_entries, part_entries, ending_entries, names_of_private, comments_of_private, whole_head, is_free}
use Rattle.ped_lines.specs.ped_tree.specs.Grammar.BlockForms as Forms
use Rattle.ped_lines.specs.ped_tree.specs.Grammar.ProgramRefusals.{private_behind, block_depth, loop_depth}
use Rattle.ped_lines.specs.ped_tree.specs.Grammar.Fits.{in_loop, private_fits}
use Rattle.ped_printed.proofs.ProgramLaws.Fits.{private_whole, LoopFits, loop_whole}
use Rattle.ped_printed.proofs.ProgramLaws.FormsFit.{Said, said_fits}
use Rattle.ped_printed.proofs.ProgramLaws.KeptPrivate.{unkept}
use Rattle.ped_printed.proofs.ProgramLaws.Standing.{loops_open}
use Rattle.ped_printed.proofs.ProgramLaws.FitBodyLists.{packed_fit, count_of, IsSourced, Sourced, Accepted, accepted_next, At, at_same, place, labels, free_left, Fitting, bare_fitting, nothing_fitting}
use Rattle.ped_printed.proofs.ProgramLaws.FitBodyLists as Lists
use Rattle.ped_printed.proofs.ProgramLaws.FitBodyStatements.{or_left, or_right, Passed, passed}
use Rattle.ped_printed.proofs.ProgramLaws.FitBodyBlocks.{rejected_are_names}

-- the DO itself
loop_alone : (saved ks : List (List ℕ)) (bs : List Block) (d n : ℕ) (label l : Option ℕ) (h : Head) (names rejected : List (List ℕ)) (body : StmtTrees) (text : List ℕ)
    → block_depth bs ≡ d → Said text (begins_do l h) → Passed saved ks bs n label (begins_do l h) names
    → private_fits (place ks bs d n) (whole_head h names rejected) ≡ true → list_all is_name rejected ≡ true → LoopFits (place ks bs d n) (whole_head h names rejected) body
loop_alone saved ks bs d n label l h names rejected body text deep r tests keeps are =
    record {
      within = record { few = tests.few; referring = or_left _ false tests.referring; short = or_left _ false tests.short };
      own = said_fits text (begins_do l h) r tests.small;
      index = or_left _ false tests.index;
      kept = unkept h.variable (open_loops bs) tests.kept;
      shallow = ap (λ k. nat_le 6 k) (sym (loops_open bs)) ∙ or_left (nat_le 6 (loop_depth bs)) _ tests.shallow;
      shallow_blocks = ap (λ k. nat_le 100 k) (sym deep) ∙ or_right (nat_le 6 (loop_depth bs)) _ tests.shallow;
      private = keeps;
      rejected = are;
    }

-- its PRIVATE

-- the line of PRIVATE, 0 where there is none
abbrev private_line_of : PrivateForm → ℕ
private_line_of no_private = 0
private_line_of (private_list s names) = s.line

-- the loop behind its PRIVATE
abbrev pub loop_of : Option ℕ → Head → PrivateForm → OpenLoop
loop_of l h p = record { label = l; variable = h.variable; private = names_of_private p; private_line = private_line_of p }

keeps_fits : (saved ks : List (List ℕ)) (bs : List Block) (d n i : ℕ) (l : Option ℕ) (h : Head) (p : PrivateForm) (rejected : List (List ℕ)) (tail : List Entry) (c : Context)
    → At ks (in_do (begun l h) ∷ bs) i c → Accepted saved c (private_entries p ++ tail) → Sourced (private_entries p)
    → private_fits (place ks bs d n) (whole_head h (names_of_private p) rejected) ≡ true
keeps_fits saved ks bs d n i l h no_private rejected tail c a ok r = refl
keeps_fits saved ks bs d n i l h (private_list s names) rejected tail c a ok r =
    let item = keeps_private names in
    let tests = passed saved ks (in_do (begun l h) ∷ bs) i c s item tail a ok in
    private_whole (place ks bs d n) (whole_head h names rejected) (record {
      names = said_fits r.0.text item r.0.reads tests.small;
      short = or_left _ false tests.short;
      others = tests.index;
    })

private_blocks : (behind_do : Bool) (s : Statement) (names : List (List ℕ)) (l : Option ℕ) (h : Head) (bs : List Block) → behind_do ≡ true → IsTrue (is_free (l ∷ labels bs) s)
    → blocks_behind behind_do s (keeps_private names) (in_do (begun l h) ∷ bs) ≡ in_do (loop_of l h (private_list s names)) ∷ bs
private_blocks behind_do s names l h bs new free =
    let cs : List Block = in_do (begun l h) ∷ bs in
    ap (λ b. left_by s.label (cond b (with_private s.line names cs) cs)) new ∙ free_left s (in_do (loop_of l h (private_list s names)) ∷ bs) free

pub private_fitting : (ks : List (List ℕ)) (bs : List Block) (d n : ℕ) (l : Option ℕ) (h : Head) (c : Context) (p : PrivateForm) → c.behind_do ≡ true → At ks (in_do (begun l h) ∷ bs) n c → IsTrue (Forms.private_keeps_labels (l ∷ labels bs) p) → Sourced (private_entries p)
    → Fitting ks (in_do (loop_of l h p) ∷ bs) d n c (comments_of_private p) (private_entries p) (in_do (loop_of l h p) ∷ bs)
private_fitting ks bs d n l h c no_private new a free r = nothing_fitting ks (in_do (loop_of l h no_private) ∷ bs) d n c a
private_fitting ks bs d n l h c (private_list s names) new a free r =
    let cs : List Block = in_do (begun l h) ∷ bs in
    let ds : List Block = in_do (loop_of l h (private_list s names)) ∷ bs in
    let f = bare_fitting ks cs d n c s (keeps_private names) ds refl refl (private_blocks c.behind_do s names l h bs new free) a r.0.comments in
    record { fits = Lists.comments_fit (place ks ds d n) s.comments r.0.comments; at = f.at }

-- no PRIVATE stands but behind its DO

private_part : (p : PartForm) (tail : List Entry) → private_behind (part_entries p ++ tail) ≡ []
private_part (a_plain s (a_simple t)) tail = refl
private_part (a_plain s a_continue) tail = refl
private_part (a_plain s (a_logical_if c t)) tail = refl
private_part (an_if s c b r) tail = refl
private_part (a_do (loop s l h p b e)) tail = refl

pub private_body : (b : BodyForm) (tail : List Entry) → private_behind tail ≡ [] → private_behind (body_entries b ++ tail) ≡ []
private_body nothing tail h = h
private_body (and_then b p) tail h = ap private_behind (append_assoc (body_entries b) (part_entries p) tail) ∙ private_body b (part_entries p ++ tail) (private_part p tail)

pub private_ending : (e : EndingForm) (tail : List Entry) → private_behind (ending_entries e ++ tail) ≡ []
private_ending (at_plain s (a_simple t)) tail = refl
private_ending (at_plain s a_continue) tail = refl
private_ending (at_plain s (a_logical_if c t)) tail = refl
private_ending (at_end_do s) tail = refl
private_ending (with_inner (loop s l h p b e)) tail = refl

private_first : (p : PrivateForm) (tail : List Entry) → private_behind tail ≡ [] → private_behind (private_entries p ++ tail) ≡ names_of_private p
private_first no_private tail h = h
private_first (private_list s names) tail h = refl

-- the whole loop

one_first : (n k : ℕ) → n + 1 + k ≡ n + (k + 1 + 0)
one_first n k = omega arith

pub loop_fitting : (saved ks : List (List ℕ)) (bs : List Block) (d n : ℕ) (c : Context) (s : Statement) (l : Option ℕ) (h : Head) (p : PrivateForm) (ts : List StmtTree) (es tail rest : List Entry) (cs : List Block)
    → block_depth bs ≡ d → At ks bs n c → At ks (in_do (begun l h) ∷ bs) (n + 1) (behind c (entry s (begins_do l h)))
    → es ++ rest ≡ private_entries p ++ tail → private_behind tail ≡ []
    → Accepted saved c (entry s (begins_do l h) ∷ (es ++ rest)) → IsSourced (entry s (begins_do l h)) → Sourced (private_entries p)
    → Fitting ks (in_do (loop_of l h p) ∷ bs) (d + 1) (n + 1) (behind c (entry s (begins_do l h))) ts es cs
    → Fitting ks bs d n c (Do (whole_head h (names_of_private p) (rejected_names s.directives)) (pack_stmts ts) ∷ []) (entry s (begins_do l h) ∷ es) cs
loop_fitting saved ks bs d n c s l h p ts es tail rest cs deep a inside lines none ok r private f =
    let i = begins_do l h in
    let first = entry s i in
    let names = names_of_private p in
    let rejected = rejected_names s.directives in
    let whole = whole_head h names rejected in
    let names_are : private_behind (es ++ rest) ≡ names = ap private_behind lines ∙ private_first p tail none in
    let tests = subst (λ (xs : List (List ℕ)). Passed saved ks bs n s.label i xs) names_are (passed saved ks bs n c s i (es ++ rest) a ok) in
    let after = accepted_next saved c first (es ++ rest) ok in
    let keeps = keeps_fits saved ks bs d n (n + 1) l h p rejected tail (behind c first) inside (subst (λ (xs : List Entry). Accepted saved (behind c first) xs) lines after) private in
    let alone = loop_alone saved ks bs d n s.label l h names rejected (pack_stmts ts) r.text deep r.reads tests keeps (rejected_are_names s.directives) in
    record {
      fits = (and_from _ _ (loop_whole (place ks bs d n) whole (pack_stmts ts) alone) (packed_fit (in_loop (place ks bs d n) whole) ts f.fits), tt);
      at = at_same ks cs _ _ _ (one_first n (count_of ts)) f.at;
    }
