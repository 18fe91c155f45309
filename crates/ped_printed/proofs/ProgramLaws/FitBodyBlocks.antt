-- A block IF at which nothing is refused fits where its parts do.
use Rattle.std.proofs.Common.{◌≡◌, ℕ, ◌+◌, List, [], ◌∷◌, ◌++◌, map, Bool, true, false, cond, Option, refl, sym, ap, subst, ◌∙◌, arith}
use Rattle.std.specs.Prelude.{nat_le, ◌&&◌, filter}
use Rattle.std.specs.List.{list_all}
use Rattle.ped_lines.specs.ped_tree.specs.Tree.{CondTree, StmtTree, StmtTrees, If}
use Rattle.ped_lines.specs.ped_tree.specs.Views.{pack_stmts}
use Rattle.ped_lines.specs.ped_tree.specs.Grammar.Words.{is_name}
use Rattle.ped_lines.specs.ped_tree.specs.Grammar.Statement.{Note, Statement}
use Rattle.ped_lines.specs.ped_tree.specs.Grammar.Items.{Item, block_if, else_if, Entry}
use Rattle.ped_lines.specs.ped_tree.specs.Grammar.Occurrences.{is_rejection, rejected_name, rejected_names}
use Rattle.ped_lines.specs.ped_tree.specs.Grammar.Contexts.{Block, Context, open_variables, behind, behind_all}
use Rattle.ped_lines.specs.ped_tree.specs.Grammar.BlockForms.{entry}
use Rattle.ped_lines.specs.ped_tree.specs.Grammar.ProgramRefusals.{block_depth}
use Rattle.ped_lines.specs.ped_tree.specs.Grammar.Fits.{Surroundings, in_if, stmts_fit}
use Rattle.ped_printed.proofs.ProgramLaws.Fits.{BranchFits, if_whole}
use Rattle.ped_printed.proofs.ProgramLaws.FormsFit.{Said, said_fits}
use Rattle.ped_printed.proofs.ProgramLaws.KeptPrivate.{open_private}
use Rattle.ped_printed.proofs.ProgramLaws.FitBodyLists.{ListFit, packed_fit, count_of, counts_both, at_same, place, Fitting, fitting_both}
use Rattle.ped_printed.proofs.ProgramLaws.FitBodyStatements.{or_left, Passed}

-- the first line of a block IF, or ELSE IF

pub block_if_fits : (saved ks : List (List ℕ)) (bs : List Block) (d n : ℕ) (label : Option ℕ) (c : CondTree) (names : List (List ℕ)) (text : List ℕ)
    → block_depth bs ≡ d → Said text (block_if c) → Passed saved ks bs n label (block_if c) names → (x y : StmtTrees) → BranchFits (place ks bs d n) (If c x y)
block_if_fits saved ks bs d n label c names text deep r h x y =
    record {
      within = record { few = h.few; referring = or_left _ false h.referring; short = or_left _ false h.short };
      own = said_fits text (block_if c) r h.small;
      shallow = ap (λ k. nat_le 100 k) (sym deep) ∙ h.shallow;
    }

pub else_if_fits : (saved ks : List (List ℕ)) (bs : List Block) (d n : ℕ) (label : Option ℕ) (c : CondTree) (names : List (List ℕ)) (text : List ℕ)
    → block_depth bs ≡ d → Said text (else_if c) → Passed saved ks bs n label (else_if c) names → (x y : StmtTrees) → BranchFits (place ks bs d n) (If c x y)
else_if_fits saved ks bs d n label c names text deep r h x y =
    record {
      within = record { few = h.few; referring = or_left _ false h.referring; short = or_left _ false h.short };
      own = said_fits text (else_if c) r h.small;
      shallow = ap (λ k. nat_le 100 k) (sym deep) ∙ h.shallow;
    }

-- the IF with its parts

else_place : (n k : ℕ) → n + 1 + k ≡ n + (1 + k)
else_place n k = omega arith

if_counted : (n a b k : ℕ) → k ≡ a + b → n + 1 + k ≡ n + (a + b + 1 + 0)
if_counted n a b k e = omega (arith, e)

pub branch_fitting : (ks : List (List ℕ)) (bs ds : List Block) (d n : ℕ) (c : Context) (s : Statement) (i : Item) (k : CondTree) (xs ys : List StmtTree) (es gs : List Entry) (cs : List Block)
    → open_variables ds ≡ open_variables bs → open_private ds ≡ open_private bs → ((x y : StmtTrees) → BranchFits (place ks bs d n) (If k x y))
    → Fitting ks ds (d + 1) (n + 1) (behind c (entry s i)) xs es ds
    → Fitting ks ds (d + 1) (n + 1 + count_of xs) (behind_all (behind c (entry s i)) es) ys gs cs
    → Fitting ks bs d n c (If k (pack_stmts xs) (pack_stmts ys) ∷ []) (entry s i ∷ (es ++ gs)) cs
branch_fitting ks bs ds d n c s i k xs ys es gs cs vs ps first f g =
    let both = fitting_both ks ds (d + 1) (n + 1) (behind c (entry s i)) xs ys es gs cs f g in
    let p = place ks bs d n in
    let then_fits : stmts_fit (in_if p 1) (pack_stmts xs) ≡ true =
    packed_fit (in_if p 1) xs
    (subst (λ (q : Surroundings). ListFit q xs) (λ j. record { constants = ks; variables = vs j; private = ps j; depth = d + 1; statements = n + 1 }) f.fits) in
    let else_fits : stmts_fit (in_if p (1 + count_of xs)) (pack_stmts ys) ≡ true =
    packed_fit (in_if p (1 + count_of xs)) ys
    (subst (λ (q : Surroundings). ListFit q ys) (λ j. record { constants = ks; variables = vs j; private = ps j; depth = d + 1; statements = else_place n (count_of xs) j }) g.fits) in
    let whole = if_whole p k (pack_stmts xs) (pack_stmts ys) (record { branch = first (pack_stmts xs) (pack_stmts ys); then_part = then_fits; else_part = else_fits }) in
    record {
      fits = (whole, tt);
      at = at_same ks cs _ _ _ (if_counted n (count_of xs) (count_of ys) (count_of (xs ++ ys)) (counts_both xs ys)) both.at;
    }

-- the names that directives reject are names

and_second : (a b : Bool) → (a && b) ≡ true → b ≡ true
and_second true b h = h
and_second false b h = absurd cc

pub rejected_are_names : (ds : List Note) → list_all is_name (rejected_names ds) ≡ true
rejected_are_names [] = refl
rejected_are_names (d ∷ ds) =
    let more = filter (λ (n : Note). is_rejection n.text) ds in
    let go : (b : Bool) → is_rejection d.text ≡ b → list_all is_name (map rejected_name (cond b (d ∷ more) more)) ≡ true =
    λ b. elim b as (λ b. is_rejection d.text ≡ b → list_all is_name (map rejected_name (cond b (d ∷ more) more)) ≡ true) [
      | true ↦ λ e. ap (λ x. x && list_all is_name (map rejected_name more)) (and_second _ (is_name (rejected_name d)) e) ∙ rejected_are_names ds
      | false ↦ λ e. rejected_are_names ds
    ] in
    go (is_rejection d.text) refl
