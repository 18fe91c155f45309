-- What a tree that fits meets, statement by statement and part by part.
use Rattle.std.proofs.Common.{◌≡◌, ℕ, ◌+◌, List, [], ◌∷◌, length, Bool, true, false, refl, ap, ◌∙◌, arith}
use Rattle.std.specs.Prelude.{not, ◌&&◌, ◌||◌, ◌==◌, nat_lt, nat_le}
use Rattle.std.specs.List.{list_all, list_any}
use Rattle.std.proofs.lemmas.Bool.{and_parts, and_from, not-true, not_from_false, leb-true, le-leb, eqb-true, eq-eqb}
use Rattle.ped_lines.specs.ped_base.specs.Lists.{has_some, is_same_text, is_among}
use Rattle.ped_lines.specs.ped_base.proofs.NameEquality.{same_is, same_itself}
use Rattle.ped_lines.specs.ped_tree.specs.Tree.{CondTree, Head, StmtTree, StmtTrees, Assign, If, Do, Print, Read, Stop, Comment, DeclTree, Program, Implicit, Integer, Dimension, Parameter, Save, Remark}
use Rattle.ped_lines.specs.ped_tree.specs.Numbering.{statements_count}
use Rattle.ped_lines.specs.ped_tree.specs.Accesses.{own_accesses}
use Rattle.ped_lines.specs.ped_tree.specs.Printing.{own_text, private_text, decl_text, is_remark}
use Rattle.ped_lines.specs.ped_tree.specs.Grammar.Words.{is_name}
use Rattle.ped_lines.specs.ped_tree.specs.Grammar.Columns.{is_directive}
use Rattle.ped_lines.specs.ped_tree.specs.Grammar.Grouping.{trimmed}
use Rattle.ped_lines.specs.ped_tree.specs.Grammar.StatementForms.{are_names}
use Rattle.ped_lines.specs.ped_tree.specs.Grammar.Contexts.{decl_rank, is_stop}
use Rattle.ped_lines.specs.ped_tree.specs.Grammar.ProgramRefusals.{is_out_of_order, assigned_by, meets}
use Rattle.ped_lines.specs.ped_tree.specs.Grammar.Fits.{expr_fits, target_fits, cond_fits, item_fits, comment_fits, Surroundings, is_within, simple_fits, private_fits, loop_fits, stmt_fits, stmts_fit, in_if, in_loop, decl_fits, decls_fit}
use Rattle.ped_lines.specs.Printed.Fitting.{IsCommentText}

-- what a DO says by itself
abbrev pub head_fits : Head → Bool
head_fits h = is_name h.variable && expr_fits h.first && expr_fits h.last && expr_fits h.step

-- the names, literals and constants of a statement by itself; a comment is no statement
abbrev pub own_fits : StmtTree → Bool
own_fits (Assign left right) = target_fits left && expr_fits right
own_fits (If condition then_part else_part) = cond_fits condition
own_fits (Do h body) = head_fits h
own_fits (Print items) = list_all item_fits items
own_fits (Read items) = list_all target_fits items
own_fits Stop = true
own_fits (Comment text) = false

-- the limits of a numbered statement by itself
pub record Within (p : Surroundings) (s : StmtTree) : Type 0 where
  pub few : nat_lt 4000 (p.statements + 1) ≡ false
  pub referring : nat_lt 64 (length (own_accesses p.constants p.variables s)) ≡ false
  pub short : nat_lt 1300 (length (own_text s)) ≡ false

-- an assignment, PRINT, READ or STOP
pub record SimpleFits (p : Surroundings) (s : StmtTree) : Type 0 where
  pub within : Within p s
  pub own : own_fits s ≡ true
  pub index : meets (assigned_by s) p.variables ≡ false
  pub stops : (is_stop s && has_some p.variables) ≡ false

-- the IF itself
pub record BranchFits (p : Surroundings) (s : StmtTree) : Type 0 where
  pub within : Within p s
  pub own : own_fits s ≡ true
  pub shallow : nat_le 100 p.depth ≡ false

-- the PRIVATE statement of a DO
pub record PrivateFits (p : Surroundings) (h : Head) : Type 0 where
  pub names : are_names h.private ≡ true
  pub short : nat_lt 1300 (length (private_text h.private)) ≡ false
  pub others : meets h.private (h.variable ∷ p.variables) ≡ false

-- the DO itself
pub record LoopFits (p : Surroundings) (h : Head) (body : StmtTrees) : Type 0 where
  pub within : Within p (Do h body)
  pub own : own_fits (Do h body) ≡ true
  pub index : is_among h.variable p.variables ≡ false
  pub kept : is_among h.variable p.private ≡ false
  pub shallow : nat_le 6 (length p.variables) ≡ false
  pub shallow_blocks : nat_le 100 p.depth ≡ false
  pub private : private_fits p h ≡ true
  pub rejected : list_all is_name h.rejected ≡ true

up_to : (n m : ℕ) → nat_le n m ≡ true → nat_lt m n ≡ false
up_to n m h = grind arith

at_most : (n m : ℕ) → nat_lt m n ≡ false → nat_le n m ≡ true
at_most n m h = grind arith

below : (n m : ℕ) → nat_lt n m ≡ true → nat_le m n ≡ false
below n m h = grind arith

less : (n m : ℕ) → nat_le m n ≡ false → nat_lt n m ≡ true
less n m h = grind arith

one_more : (n : ℕ) → nat_lt n 4000 ≡ true → nat_lt 4000 (n + 1) ≡ false
one_more n h = grind arith

one_less : (n : ℕ) → nat_lt 4000 (n + 1) ≡ false → nat_lt n 4000 ≡ true
one_less n h = grind arith

pub within_parts : (p : Surroundings) (s : StmtTree) → is_within p s ≡ true → Within p s
within_parts p s h =
    let a = and_parts _ (nat_le (length (own_text s)) 1300) h in
    let b = and_parts (nat_lt p.statements 4000) (nat_le (length (own_accesses p.constants p.variables s)) 64) a.0 in
    record {
      few = one_more p.statements b.0;
      referring = up_to (length (own_accesses p.constants p.variables s)) 64 b.1;
      short = up_to (length (own_text s)) 1300 a.1;
    }

pub within_from : (p : Surroundings) (s : StmtTree) → Within p s → is_within p s ≡ true
within_from p s w =
    and_from _ _ (and_from _ _ (one_less p.statements w.few) (at_most (length (own_accesses p.constants p.variables s)) 64 w.referring)) (at_most (length (own_text s)) 1300 w.short)

-- simple statements

simple_one : (p : Surroundings) (s : StmtTree) → simple_fits p s ≡ true → own_fits s ≡ true → SimpleFits p s
simple_one p s h own =
    let a = and_parts _ (not (is_stop s && has_some p.variables)) h in
    let b = and_parts (is_within p s) (not (meets (assigned_by s) p.variables)) a.0 in
    record { within = within_parts p s b.0; own = own; index = not-true _ b.1; stops = not-true _ a.1 }

simple_from : (p : Surroundings) (s : StmtTree) → SimpleFits p s → simple_fits p s ≡ true
simple_from p s f = and_from _ _ (and_from _ _ (within_from p s f.within) (not_from_false _ f.index)) (not_from_false _ f.stops)

-- an assignment, PRINT, READ or STOP
abbrev pub is_simple : StmtTree → Bool
is_simple (Assign l r) = true
is_simple (If c a b) = false
is_simple (Do h body) = false
is_simple (Print items) = true
is_simple (Read items) = true
is_simple Stop = true
is_simple (Comment text) = false

pub simple_parts : (p : Surroundings) (s : StmtTree) → is_simple s ≡ true → stmt_fits p s ≡ true → SimpleFits p s
simple_parts p (Assign l r) is h =
    let a = and_parts _ (expr_fits r) h in
    let b = and_parts (simple_fits p (Assign l r)) (target_fits l) a.0 in
    simple_one p (Assign l r) b.0 (and_from _ _ b.1 a.1)
simple_parts p (If c x y) is h = absurd cc
simple_parts p (Do k body) is h = absurd cc
simple_parts p (Print items) is h = let a = and_parts (simple_fits p (Print items)) (list_all item_fits items) h in simple_one p (Print items) a.0 a.1
simple_parts p (Read items) is h = let a = and_parts (simple_fits p (Read items)) (list_all target_fits items) h in simple_one p (Read items) a.0 a.1
simple_parts p Stop is h = simple_one p Stop h refl
simple_parts p (Comment text) is h = absurd cc

pub simple_whole : (p : Surroundings) (s : StmtTree) → is_simple s ≡ true → SimpleFits p s → stmt_fits p s ≡ true
simple_whole p (Assign l r) is f =
    let a = and_parts (target_fits l) (expr_fits r) f.own in
    and_from _ _ (and_from _ _ (simple_from p (Assign l r) f) a.0) a.1
simple_whole p (If c x y) is f = absurd cc
simple_whole p (Do k body) is f = absurd cc
simple_whole p (Print items) is f = and_from _ _ (simple_from p (Print items) f) f.own
simple_whole p (Read items) is f = and_from _ _ (simple_from p (Read items) f) f.own
simple_whole p Stop is f = simple_from p Stop f
simple_whole p (Comment text) is f = absurd cc

-- IF

-- the IF with its parts
pub record IfFits (p : Surroundings) (c : CondTree) (a b : StmtTrees) : Type 0 where
  pub branch : BranchFits p (If c a b)
  pub then_part : stmts_fit (in_if p 1) a ≡ true
  pub else_part : stmts_fit (in_if p (1 + statements_count a)) b ≡ true

pub if_parts : (p : Surroundings) (c : CondTree) (a b : StmtTrees) → stmt_fits p (If c a b) ≡ true → IfFits p c a b
if_parts p c a b h =
    let x = and_parts _ (stmts_fit (in_if p (1 + statements_count a)) b) h in
    let y = and_parts _ (stmts_fit (in_if p 1) a) x.0 in
    let z = and_parts _ (cond_fits c) y.0 in
    let w = and_parts (is_within p (If c a b)) (nat_lt p.depth 100) z.0 in
    record { branch = record { within = within_parts p (If c a b) w.0; own = z.1; shallow = below p.depth 100 w.1 }; then_part = y.1; else_part = x.1 }

pub if_whole : (p : Surroundings) (c : CondTree) (a b : StmtTrees) → IfFits p c a b → stmt_fits p (If c a b) ≡ true
if_whole p c a b f =
    and_from _ _ (and_from _ _ (and_from _ _ (and_from _ _ (within_from p (If c a b) f.branch.within) (less p.depth 100 f.branch.shallow)) f.branch.own) f.then_part) f.else_part

-- DO

pub loop_parts : (p : Surroundings) (h : Head) (body : StmtTrees) → loop_fits p h body ≡ true → LoopFits p h body
loop_parts p h body fits =
    let a = and_parts _ (list_all is_name h.rejected) fits in
    let b = and_parts _ (private_fits p h) a.0 in
    let c = and_parts _ (nat_lt p.depth 100) b.0 in
    let d = and_parts _ (nat_lt (length p.variables) 6) c.0 in
    let e = and_parts _ (not (is_among h.variable p.private)) d.0 in
    let f = and_parts _ (not (is_among h.variable p.variables)) e.0 in
    let g = and_parts _ (expr_fits h.step) f.0 in
    let i = and_parts _ (expr_fits h.last) g.0 in
    let j = and_parts _ (expr_fits h.first) i.0 in
    let k = and_parts (is_within p (Do h body)) (is_name h.variable) j.0 in
    record {
      within = within_parts p (Do h body) k.0;
      own = and_from _ _ (and_from _ _ (and_from _ _ k.1 j.1) i.1) g.1;
      index = not-true _ f.1;
      kept = not-true _ e.1;
      shallow = below (length p.variables) 6 d.1;
      shallow_blocks = below p.depth 100 c.1;
      private = b.1;
      rejected = a.1;
    }

pub loop_whole : (p : Surroundings) (h : Head) (body : StmtTrees) → LoopFits p h body → loop_fits p h body ≡ true
loop_whole p h body f =
    let a = and_parts _ (expr_fits h.step) f.own in
    let b = and_parts _ (expr_fits h.last) a.0 in
    let c = and_parts (is_name h.variable) (expr_fits h.first) b.0 in
    let own = and_from _ _ (and_from _ _ (and_from _ _ (and_from _ _ (within_from p (Do h body) f.within) c.0) c.1) b.1) a.1 in
    let names = and_from _ _ (and_from _ _ own (not_from_false _ f.index)) (not_from_false _ f.kept) in
    let limits = and_from _ _ (and_from _ _ names (less (length p.variables) 6 f.shallow)) (less p.depth 100 f.shallow_blocks) in
    and_from _ _ (and_from _ _ limits f.private) f.rejected

pub do_parts : (p : Surroundings) (h : Head) (body : StmtTrees) → stmt_fits p (Do h body) ≡ true → LoopFits p h body × (stmts_fit (in_loop p h) body ≡ true)
do_parts p h body fits = let a = and_parts (loop_fits p h body) (stmts_fit (in_loop p h) body) fits in (loop_parts p h body a.0, a.1)

either : (a b : Bool) → (not a || b) ≡ true → a ≡ true → b ≡ true
either true b h k = h
either false b h k = absurd cc

there : (a b : Bool) → b ≡ true → (not a || b) ≡ true
there true b h = h
there false b h = refl

pub private_parts : (p : Surroundings) (h : Head) → private_fits p h ≡ true → has_some h.private ≡ true → PrivateFits p h
private_parts p h fits some =
    let a = either (has_some h.private) _ fits some in
    let b = and_parts _ (not (meets h.private (h.variable ∷ p.variables))) a in
    let c = and_parts (are_names h.private) (nat_le (length (private_text h.private)) 1300) b.0 in
    record { names = c.0; short = up_to (length (private_text h.private)) 1300 c.1; others = not-true _ b.1 }

pub private_whole : (p : Surroundings) (h : Head) → PrivateFits p h → private_fits p h ≡ true
private_whole p h f =
    there (has_some h.private) _ (and_from _ _ (and_from _ _ f.names (at_most (length (private_text h.private)) 1300 f.short)) (not_from_false _ f.others))

-- comments

pub comment_parts : (text : List ℕ) → comment_fits text ≡ true → IsCommentText text
comment_parts text h =
    let a = and_parts _ (not (is_directive (67 ∷ text))) h in
    let b = and_parts _ (is_same_text (trimmed text) text) a.0 in
    let c = and_parts (nat_le (length text) 71) (not (list_any (λ c. c == 10) text)) b.0 in
    record { short = leb-true (length text) 71 c.0; one_line = not-true _ c.1; ended = same_is (trimmed text) text b.1; no_directive = not-true _ a.1 }

pub comment_whole : (text : List ℕ) → IsCommentText text → comment_fits text ≡ true
comment_whole text f =
    let same : is_same_text (trimmed text) text ≡ true = ap (λ (t : List ℕ). is_same_text t text) f.ended ∙ same_itself text in
    and_from _ _ (and_from _ _ (and_from _ _ (le-leb (length text) 71 f.short) (not_from_false _ f.one_line)) same) (not_from_false _ f.no_directive)

-- declarations

-- a declaration behind others that the order of statements has brought so far
pub record DeclarationFits (phase : ℕ) (d : DeclTree) : Type 0 where
  pub declares : decl_fits d ≡ true
  pub short : nat_lt 1300 (length (decl_text d)) ≡ false
  pub ordered : is_out_of_order phase (decl_rank d) ≡ false

abbrev one_declaration : ℕ → DeclTree → Bool
one_declaration phase d = decl_fits d && nat_le (length (decl_text d)) 1300 && not (is_out_of_order phase (decl_rank d))

declaration_one : (phase : ℕ) (d : DeclTree) (more : Bool) → (one_declaration phase d && more) ≡ true → DeclarationFits phase d × (more ≡ true)
declaration_one phase d more h =
    let a = and_parts (one_declaration phase d) more h in
    let b = and_parts _ (not (is_out_of_order phase (decl_rank d))) a.0 in
    let c = and_parts (decl_fits d) (nat_le (length (decl_text d)) 1300) b.0 in
    (record { declares = c.0; short = up_to (length (decl_text d)) 1300 c.1; ordered = not-true _ b.1 }, a.1)

pub declaration_parts : (phase : ℕ) (d : DeclTree) (ds : List DeclTree) → is_remark d ≡ false → decls_fit phase (d ∷ ds) ≡ true → DeclarationFits phase d × (decls_fit (decl_rank d) ds ≡ true)
declaration_parts phase (Program x) ds other h = declaration_one phase (Program x) (decls_fit 1 ds) h
declaration_parts phase Implicit ds other h = declaration_one phase Implicit (decls_fit 2 ds) h
declaration_parts phase (Integer xs) ds other h = declaration_one phase (Integer xs) (decls_fit 3 ds) h
declaration_parts phase (Dimension xs) ds other h = declaration_one phase (Dimension xs) (decls_fit 3 ds) h
declaration_parts phase (Parameter vs) ds other h = declaration_one phase (Parameter vs) (decls_fit 3 ds) h
declaration_parts phase (Save names) ds other h = declaration_one phase (Save names) (decls_fit 3 ds) h
declaration_parts phase (Remark text) ds other h = absurd cc

declaration_from : (phase : ℕ) (d : DeclTree) (more : Bool) → DeclarationFits phase d → more ≡ true → (one_declaration phase d && more) ≡ true
declaration_from phase d more f h = and_from _ _ (and_from _ _ (and_from _ _ f.declares (at_most (length (decl_text d)) 1300 f.short)) (not_from_false _ f.ordered)) h

pub declaration_whole : (phase : ℕ) (d : DeclTree) (ds : List DeclTree) → is_remark d ≡ false → DeclarationFits phase d → decls_fit (decl_rank d) ds ≡ true → decls_fit phase (d ∷ ds) ≡ true
declaration_whole phase (Program x) ds other f h = declaration_from phase (Program x) (decls_fit 1 ds) f h
declaration_whole phase Implicit ds other f h = declaration_from phase Implicit (decls_fit 2 ds) f h
declaration_whole phase (Integer xs) ds other f h = declaration_from phase (Integer xs) (decls_fit 3 ds) f h
declaration_whole phase (Dimension xs) ds other f h = declaration_from phase (Dimension xs) (decls_fit 3 ds) f h
declaration_whole phase (Parameter vs) ds other f h = declaration_from phase (Parameter vs) (decls_fit 3 ds) f h
declaration_whole phase (Save names) ds other f h = declaration_from phase (Save names) (decls_fit 3 ds) f h
declaration_whole phase (Remark text) ds other f h = absurd cc
