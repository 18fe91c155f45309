-- Programs with the comments before their first statement among the declarations.
use Rattle.std.proofs.Common.{◌≡◌, ◌+◌, ◌⊎◌, inl, inr, ℕ, zero, suc, List, [], ◌∷◌, ◌++◌, map, length, Bool, true, false, Option, Some, None, refl, sym, ap, ◌∙◌, append-nil, arith}
use Rattle.std.specs.Prelude.{◌&&◌, ◌==◌, nat_le, not}
use Rattle.std.proofs.lemmas.Bool.Decides.{nat_tests}
use Rattle.ped_tree.specs.Tree.{ExprTree, StmtTree, StmtTrees, Assign, If, Do, Print, Read, Stop, Comment, no_stmts, more_stmts, DeclTree, Program, Implicit, Integer, Dimension, Parameter, Save, Remark, ProgramTree}
use Rattle.ped_tree.specs.Views.{stmt_tree, pack_stmts}
use Rattle.ped_tree.specs.declared.statements.Stmt.{Stmt}
use Rattle.ped_tree.specs.Printing.{decl_text}
use Rattle.ped_tree.specs.Numbering.{statements_count}
use Rattle.ped_tree.specs.Grammar.Contexts.{decl_rank}
use Rattle.ped_tree.specs.Grammar.LimitNumbers.{most_characters}
use Rattle.ped_tree.specs.Grammar.ProgramRefusals.{is_out_of_order}
use Rattle.ped_tree.specs.Grammar.Fits.{Surroundings, at_body, moved, comment_fits, decl_fits, decls_fit, stmts_fit, begins_with_statement, fits}
use Rattle.ped_links.specs.ped_symbols.specs.Values.{Values}
use Rattle.ped_links.specs.ped_units.specs.Forms.{Called}
use Rattle.ped_links.specs.ped_units.specs.Units.{ProgramUnit, ProgramUnits, unit_of, call_of}
use Rattle.ped_links.specs.ped_units.specs.Expanding.{Given, Meanings, Expanded, replaced, expanded_or, all_expanded_in, call_expanded, unit_expanded}
use Rattle.ped_calls.specs.Opening.{placed}
use Rattle.ped_links.specs.ped_units.specs.Verdicts.{front_comments, behind_comments, settled}
use Rattle.ped_calls.proofs.CourseSteps.{behind_pushed, packed_behind}

-- comments aren't counted
pub count_behind : (ss : StmtTrees) → statements_count (behind_comments ss) ≡ statements_count ss
count_behind no_stmts = refl
count_behind (more_stmts (Assign left right) rest) = refl
count_behind (more_stmts (If c t e) rest) = refl
count_behind (more_stmts (Do h body) rest) = refl
count_behind (more_stmts (Print items) rest) = refl
count_behind (more_stmts (Read items) rest) = refl
count_behind (more_stmts Stop rest) = refl
count_behind (more_stmts (Comment text) rest) = let more = count_behind rest in omega (arith, more)

no_front : (ss : StmtTrees) → begins_with_statement ss ≡ true → (front_comments ss ≡ []) × (behind_comments ss ≡ ss)
no_front no_stmts h = (refl, refl)
no_front (more_stmts (Assign left right) rest) h = (refl, refl)
no_front (more_stmts (If c t e) rest) h = (refl, refl)
no_front (more_stmts (Do h body) rest) k = (refl, refl)
no_front (more_stmts (Print items) rest) h = (refl, refl)
no_front (more_stmts (Read items) rest) h = (refl, refl)
no_front (more_stmts Stop rest) h = (refl, refl)
no_front (more_stmts (Comment text) rest) h = absurd cc

-- a program with a statement before all comments among its statements
pub settled_same : (t : ProgramTree) → begins_with_statement t.body ≡ true → settled t ≡ t
settled_same t h =
    let p = no_front t.body h in
    λ i. record { decls = (ap (λ (ds : List DeclTree). t.decls ++ ds) p.0 ∙ append-nil t.decls) i; body = p.1 i }

begun : (constants : Values) (inner : Called → Given → Expanded Given) (c : Called) (g : Given) (rest : StmtTrees) (o : Option ProgramUnit)
    → begins_with_statement (more_stmts (unit_expanded inner constants c g o).statement rest) ≡ true
begun constants inner c g rest None = refl
begun constants inner c g rest (Some v) = refl

call_begins : (depth : ℕ) (us : ProgramUnits) (constants : Values) (c : Called) (g : Given) (rest : StmtTrees) → begins_with_statement (more_stmts (call_expanded depth us constants c g).statement rest) ≡ true
call_begins zero us constants c g rest = refl
call_begins (suc depth) us constants c g rest = begun constants (call_expanded depth us []) c g rest (unit_of us c.name)

assignment_begins : (m : Meanings) (depth : ℕ) (us : ProgramUnits) (constants : Values) (left right : ExprTree) (g : Given) (rest : StmtTrees) (o : Option Called)
    → begins_with_statement (more_stmts (expanded_or m (call_expanded depth us constants) (Assign left right) g o).statement rest) ≡ true
assignment_begins m depth us constants left right g rest None = refl
assignment_begins m depth us constants left right g rest (Some c) = call_begins depth us constants _ g rest

-- expanding puts no comment before all statements
pub expanded_begins : (m : Meanings) (depth : ℕ) (us : ProgramUnits) (constants : Values) (ss : StmtTrees) (g : Given) → begins_with_statement ss ≡ true
    → begins_with_statement (all_expanded_in m (call_expanded depth us constants) ss g).statements ≡ true
expanded_begins m depth us constants no_stmts g h = refl
expanded_begins m depth us constants (more_stmts (Assign left right) rest) g h = assignment_begins m depth us constants (replaced m left) (replaced m right) g _ (call_of left right)
expanded_begins m depth us constants (more_stmts (If c t e) rest) g h = refl
expanded_begins m depth us constants (more_stmts (Do head body) rest) g h = refl
expanded_begins m depth us constants (more_stmts (Print items) rest) g h = refl
expanded_begins m depth us constants (more_stmts (Read items) rest) g h = refl
expanded_begins m depth us constants (more_stmts Stop rest) g h = refl
expanded_begins m depth us constants (more_stmts (Comment text) rest) g h = absurd cc

first_false : (a b : Bool) → a ≡ false → (a && b) ≡ false
first_false true b h = absurd cc
first_false false b h = refl

last_false : (a b : Bool) → b ≡ false → (a && b) ≡ false
last_false true b h = h
last_false false b h = refl

decl_last_false : (a b c d : Bool) → d ≡ false → (a && b && c && d) ≡ false
decl_last_false true true true d h = h
decl_last_false true true false d h = refl
decl_last_false true false c d h = refl
decl_last_false false b c d h = refl

-- a declaration before others that don't fit
decl_before : (d : DeclTree) (phase : ℕ) (others : Bool) → others ≡ false → (decl_fits d && nat_le (length (decl_text d)) most_characters && not (is_out_of_order phase (decl_rank d)) && others) ≡ false
decl_before d phase others h = decl_last_false (decl_fits d) (nat_le (length (decl_text d)) most_characters) (not (is_out_of_order phase (decl_rank d))) others h

-- what begins with declarations that fit nowhere behind others
decls_after : (ds front : List DeclTree) → ((phase : ℕ) → decls_fit phase front ≡ false) → (phase : ℕ) → decls_fit phase (ds ++ front) ≡ false
decls_after [] front h phase = h phase
decls_after (Remark text ∷ ds) front h phase = last_false (comment_fits text) _ (decls_after ds front h phase)
decls_after (Program x ∷ ds) front h phase = decl_before (Program x) phase (decls_fit (decl_rank (Program x)) (ds ++ front)) (decls_after ds front h (decl_rank (Program x)))
decls_after (Implicit ∷ ds) front h phase = decl_before Implicit phase (decls_fit (decl_rank Implicit) (ds ++ front)) (decls_after ds front h (decl_rank Implicit))
decls_after (Integer names ∷ ds) front h phase = decl_before (Integer names) phase (decls_fit (decl_rank (Integer names)) (ds ++ front)) (decls_after ds front h (decl_rank (Integer names)))
decls_after (Dimension names ∷ ds) front h phase = decl_before (Dimension names) phase (decls_fit (decl_rank (Dimension names)) (ds ++ front)) (decls_after ds front h (decl_rank (Dimension names)))
decls_after (Parameter values ∷ ds) front h phase = decl_before (Parameter values) phase (decls_fit (decl_rank (Parameter values)) (ds ++ front)) (decls_after ds front h (decl_rank (Parameter values)))
decls_after (Save names ∷ ds) front h phase = decl_before (Save names) phase (decls_fit (decl_rank (Save names)) (ds ++ front)) (decls_after ds front h (decl_rank (Save names)))

-- a comment before statements that fit nowhere, or that doesn't fit itself
comment_further : (text : List ℕ) (rest : StmtTrees) → ((phase : ℕ) → decls_fit phase (front_comments rest) ≡ false) ⊎ ((p : Surroundings) → stmts_fit p (behind_comments rest) ≡ false)
    → ((phase : ℕ) → decls_fit phase (front_comments (more_stmts (Comment text) rest)) ≡ false) ⊎ ((p : Surroundings) → stmts_fit p (behind_comments rest) ≡ false)
comment_further text rest (inl k) = inl (λ phase. last_false (comment_fits text) _ (k phase))
comment_further text rest (inr k) = inr k

moved_nowhere : (p : Surroundings) → moved p 0 ≡ p
moved_nowhere p = let none : p.statements + 0 ≡ p.statements = omega arith in λ i. record p { statements = none i }

comment_by : (text : List ℕ) (rest : StmtTrees) (b : Bool) → comment_fits text ≡ b → ((p : Surroundings) → (comment_fits text && stmts_fit (moved p 0) rest) ≡ false)
    → (((p : Surroundings) → stmts_fit p rest ≡ false) → ((phase : ℕ) → decls_fit phase (front_comments rest) ≡ false) ⊎ ((p : Surroundings) → stmts_fit p (behind_comments rest) ≡ false))
    → ((phase : ℕ) → decls_fit phase (front_comments (more_stmts (Comment text) rest)) ≡ false) ⊎ ((p : Surroundings) → stmts_fit p (behind_comments rest) ≡ false)
comment_by text rest false k h others = inl (λ phase. first_false (comment_fits text) _ k)
comment_by text rest true k h others =
    comment_further text rest (others (λ p. ap (λ (q : Surroundings). stmts_fit q rest) (sym (moved_nowhere p)) ∙ (ap (λ (b : Bool). b && stmts_fit (moved p 0) rest) (sym k) ∙ h p)))

-- a comment or what is behind it doesn't fit
front_or_behind : (ss : StmtTrees) → ((p : Surroundings) → stmts_fit p ss ≡ false)
    → ((phase : ℕ) → decls_fit phase (front_comments ss) ≡ false) ⊎ ((p : Surroundings) → stmts_fit p (behind_comments ss) ≡ false)
front_or_behind no_stmts h = inr h
front_or_behind (more_stmts (Assign left right) rest) h = inr h
front_or_behind (more_stmts (If c t e) rest) h = inr h
front_or_behind (more_stmts (Do head body) rest) h = inr h
front_or_behind (more_stmts (Print items) rest) h = inr h
front_or_behind (more_stmts (Read items) rest) h = inr h
front_or_behind (more_stmts Stop rest) h = inr h
front_or_behind (more_stmts (Comment text) rest) h = comment_by text rest (comment_fits text) refl h (front_or_behind rest)

fits_false : (a b c : Bool) → (a ≡ false) ⊎ (b ≡ false) → (a && b && c) ≡ false
fits_false a b c (inl h) = first_false (a && b) c (first_false a b h)
fits_false a b c (inr h) = first_false (a && b) c (last_false a b h)

parts_false : (t : ProgramTree) → ((phase : ℕ) → decls_fit phase (front_comments t.body) ≡ false) ⊎ ((p : Surroundings) → stmts_fit p (behind_comments t.body) ≡ false)
    → (decls_fit 0 (settled t).decls ≡ false) ⊎ (stmts_fit (at_body (settled t)) (settled t).body ≡ false)
parts_false t (inl h) = inl (decls_after t.decls (front_comments t.body) h 0)
parts_false t (inr h) = inr (h (at_body (settled t)))

-- where the statements fit nowhere, the program doesn't
pub settled_unfit : (t : ProgramTree) → ((p : Surroundings) → stmts_fit p t.body ≡ false) → fits (settled t) ≡ false
settled_unfit t h = fits_false (decls_fit 0 (settled t).decls) (stmts_fit (at_body (settled t)) (settled t).body) _ (parts_false t (front_or_behind t.body h))

-- statements that are placed one by one

zero_not : (n : ℕ) → (n == 0) ≡ false → n ≡ 0 → ⊥
zero_not n h e = let no : ◌≡◌ {A = Bool} true false = sym (ap (λ (m : ℕ). m == 0) e) ∙ h in cc

pub is_zero : (n : ℕ) → (n == 0) ≡ true → n ≡ 0
is_zero n h = grind (arith, nat_tests)

-- a statement behind others
pub placed_pushed : (ds : List DeclTree) (done : List Stmt) (s : Stmt) (left : StmtTrees) (n : ℕ) → length done ≡ n → (n == 0) ≡ false → placed ds (map stmt_tree (done ++ s ∷ [])) left ≡ placed ds (map stmt_tree done) (more_stmts (stmt_tree s) left)
placed_pushed ds [] s left n counted some = absurd (zero_not n some (sym counted))
placed_pushed ds (d ∷ done) s left n counted some = λ i. record { decls = ds; body = behind_pushed (d ∷ done) s (stmt_tree s) left refl i }

-- all statements
pub placed_end : (ds : List DeclTree) (ss : List StmtTree) → placed ds ss no_stmts ≡ record { decls = ds; body = pack_stmts ss }
placed_end ds [] = λ i. record { decls = append-nil ds i; body = no_stmts }
placed_end ds (s ∷ ss) = λ i. record { decls = ds; body = sym (packed_behind (s ∷ ss)) i }
