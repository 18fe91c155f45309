-- What the code of lowering asks of numbers, and the programs that it makes.
use Rattle.std.proofs.Common.{◌≡◌, ℕ, zero, suc, ◌+◌, ◌≤◌, Bool, true, false, ◌||◌, List, [], ◌∷◌, ◌++◌, length, drop, get_or, ◌<◌, Option, Some, None, refl, sym, ap, ◌∙◌, arith}
use Rattle.std.specs.Prelude.{option_map}
use Rattle.std.specs.List.{list_any, range_with_len}
use Rattle.std.proofs.lemmas.List.{drop_more}
use Rattle.ped_tree.specs.Tree.{Head, StmtTree, StmtTrees, Do, DeclTree, ProgramTree}
use Rattle.ped_tree.specs.Numbering.{statements_count}
use Rattle.ped_tree.specs.Views.{stmt_tree, stmt_trees}
use Rattle.ped_tree.specs.declared.statements.Stmt.{Stmt}
use Rattle.ped_tree.proofs.Numbers.{stmt_trees-drop}
use Rattle.ped_rules.specs.ped_symbols.specs.NameRefusals.{IsValid}
use Rattle.ped_rules.specs.ped_symbols.proofs.RightUseLaws.Whole.{right_program}
use Rattle.ped_rules.specs.ped_flow.specs.Questions.{IsLoop}
use Rattle.ped_rules.specs.ped_flow.proofs.Answering.{loop_fits}
use Rattle.ped_refs.specs.Loops.{loop_of, nest_of}
use Rattle.ped_refs.specs.declared.loops.Loop.{Loop as CodeLoop}
use Rattle.ped_rules.specs.ped_steps.specs.Replacing.{followed, alone, all_replaced}
use Rattle.ped_rules.specs.ped_steps.proofs.Followed.{followed-assoc}
use Rattle.ped_rules.specs.ped_steps.proofs.OnePlace.{one_program}
use Rattle.ped_rules.specs.OnlyLoops.{on_loop}
use Rattle.ped_reduce.specs.Lowering.{Partials, Lowered, partials_of, lowered_loop}
use Rattle.ped_reduce.specs.Reducing.{is_live}

-- the numbers from a on, and one more
ranged : (a n : ℕ) → range_with_len a (suc n) ≡ range_with_len a n ++ (a + n) ∷ []
ranged a zero = let e : a ≡ a + 0 = omega arith in ap (λ (k : ℕ). k ∷ []) e
ranged a (suc n) =
    let e : a + 1 + n ≡ a + suc n = omega arith in
    ap (λ (xs : List ℕ). a ∷ xs) (ranged (a + 1) n ∙ ap (λ (k : ℕ). range_with_len (a + 1) n ++ k ∷ []) e)

pub range_more : (n : ℕ) → range_with_len 1 (n + 1) ≡ range_with_len 1 n ++ (n + 1) ∷ []
range_more n =
    let e : n + 1 ≡ suc n = omega arith in
    let f : 1 + n ≡ n + 1 = omega arith in
    ap (range_with_len 1) e ∙ ranged 1 n ∙ ap (λ (k : ℕ). range_with_len 1 n ++ k ∷ []) f

-- so few statements has a valid program, with those in a DO counted from its number on
pub few_of : (t : ProgramTree) → IsValid t → statements_count t.body ≤ 4000
few_of t valid = let few = (right_program t valid).few_statements in omega (arith, few)

pub few_within : (t : ProgramTree) → IsValid t → (n : ℕ) (h : Head) (body : StmtTrees) → IsLoop t n h body → n + statements_count body ≤ 4000
few_within t valid n h body is = let few = few_of t valid in let fit = loop_fits t n h body is in omega (arith, few, fit)

-- a copy of one statement more
pub copied_next : (ss : List Stmt) (i : ℕ) (s : Stmt) → i < length ss → s ≡ get_or ss i s → (before after whole : StmtTrees)
    → followed before (stmt_trees (drop i ss)) ≡ whole → after ≡ followed before (alone (stmt_tree s)) → followed after (stmt_trees (drop (i + 1) ss)) ≡ whole
copied_next ss i s within is before after whole h a =
    let rest = stmt_trees (drop (i + 1) ss) in
    ap (λ (b : StmtTrees). followed b rest) a
    ∙ followed-assoc before (alone (stmt_tree s)) rest
    ∙ ap (λ (ts : StmtTrees). followed before ts) (sym (stmt_trees-drop ss i s within is))
    ∙ h

-- a program by its declarations and its body
pub same_program : (decls : List DeclTree) (body : StmtTrees) (t : ProgramTree) → decls ≡ t.decls → body ≡ t.body → ◌≡◌ {A = ProgramTree} (record { decls = decls; body = body }) t
same_program decls body t d b = λ i. record { decls = d i; body = b i }

one_found : (a b : StmtTree) → Some a ≡ Some b → a ≡ b
one_found a b e = cc

-- the statements that the code puts in the place of a DO
pub replaced_loop : (t : ProgramTree) (n : ℕ) (ps : List Partials) (h : Head) (body : StmtTrees) → IsLoop t n h body → (new : StmtTrees) → new ≡ lowered_loop true ps h body
    → all_replaced (λ s. new) n t.body 1 ≡ all_replaced (on_loop (lowered_loop true ps)) n t.body 1
replaced_loop t n ps h body is new made =
    ap (λ (u : ProgramTree). u.body)
    (one_program (λ (s : StmtTree). new) (on_loop (lowered_loop true ps)) n t (λ g e. made ∙ ap (on_loop (lowered_loop true ps)) (one_found (Do h body) g (sym is ∙ e))))

-- each scalar has its arrays
found : (ps qs : List Partials) → Some ps ≡ Some qs → ps ≡ qs
found ps qs e = cc

nothing : (qs : List Partials) → None ≡ Some qs → ⊥
nothing qs e = cc

pub as_many : (names fresh : List (List ℕ)) (ps : List Partials) → partials_of names fresh ≡ Some ps → length ps ≡ length names
as_many [] fresh ps e = ap length (sym (found [] ps e))
as_many (x ∷ xs) [] ps e = absurd (nothing ps e)
as_many (x ∷ xs) (a ∷ []) ps e = absurd (nothing ps e)
as_many (x ∷ xs) (a ∷ b ∷ []) ps e = absurd (nothing ps e)
as_many (x ∷ xs) (a ∷ b ∷ c ∷ fresh) ps e = by (partials_of xs fresh) (as_many xs fresh) e
  where
    arrays : Partials
    arrays = record { scalar = x; high = a; low = b; flag = c }

    by : (o : Option (List Partials)) → ((qs : List Partials) → o ≡ Some qs → length qs ≡ length xs) → option_map (λ (qs : List Partials). arrays ∷ qs) o ≡ Some ps → length ps ≡ length (x ∷ xs)
    by None each g = absurd (nothing ps g)
    by (Some qs) each g = let rest = each qs refl in let all = ap length (sym (found (arrays ∷ qs) ps g)) in omega (arith, rest, all)

-- of the DO loops round a statement, this one is lowered or isn't
module _ (p : Lowered) (ls : List CodeLoop) (i : ℕ) (l : CodeLoop) (within : i < length ls) (is : l ≡ get_or ls i l) where
  live_split : list_any (is_live p) (nest_of (drop i ls)) ≡ (is_live p (loop_of l) || list_any (is_live p) (nest_of (drop (i + 1) ls)))
  live_split = ap (λ (ms : List CodeLoop). list_any (is_live p) (nest_of ms)) (drop_more ls i l within ∙ ap (λ (m : CodeLoop). m ∷ drop (i + 1) ls) (sym is))

  pub live_here : is_live p (loop_of l) ≡ true → (whole : Bool) → list_any (is_live p) (nest_of (drop i ls)) ≡ whole → true ≡ whole
  live_here e whole h = sym (ap (λ (b : Bool). b || list_any (is_live p) (nest_of (drop (i + 1) ls))) e) ∙ sym live_split ∙ h

  pub live_later : is_live p (loop_of l) ≡ false → (whole : Bool) → list_any (is_live p) (nest_of (drop i ls)) ≡ whole → list_any (is_live p) (nest_of (drop (i + 1) ls)) ≡ whole
  live_later e whole h = sym (ap (λ (b : Bool). b || list_any (is_live p) (nest_of (drop (i + 1) ls))) e) ∙ sym live_split ∙ h
