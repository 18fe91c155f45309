-- What a DO that fits by itself says of the limits round it.
use Rattle.std.proofs.Common.{◌≡◌, ◌<◌, Bool, true, length}
use Rattle.std.specs.Prelude.{◌&&◌, not, nat_lt, nat_le}
use Rattle.std.specs.List.{list_all}
use Rattle.std.proofs.lemmas.Bool.{and_parts, ltb-true}
use Rattle.ped_base.specs.Lists.{is_among}
use Rattle.ped_tree.specs.Accesses.{own_accesses}
use Rattle.ped_tree.specs.Printing.{own_text}
use Rattle.ped_tree.specs.Tree.{Head, StmtTrees, Do}
use Rattle.ped_tree.specs.Grammar.Words.{is_name}
use Rattle.ped_tree.specs.Grammar.Fits.{Surroundings, is_within, expr_fits, private_fits, loop_fits}

three : (a b c : Bool) → (a && b && c) ≡ true → a ≡ true
three a b c q = (and_parts a b (and_parts (a && b) c q).0).0

seven : (a b c d e f g : Bool) → (a && b && c && d && e && f && g) ≡ true → a ≡ true
seven a b c d e f g q = three a b c (three (a && b && c) d e (three (a && b && c && d && e) f g q))

-- the first of eleven tests, the eighth and the ninth
eleven : (a b c d e f g h i j k : Bool) → (a && b && c && d && e && f && g && h && i && j && k) ≡ true → (a ≡ true) × (h ≡ true) × (i ≡ true)
eleven a b c d e f g h i j k q =
    let nine = three (a && b && c && d && e && f && g && h && i) j k q in
    let last = and_parts (a && b && c && d && e && f && g && h) i nine in
    let eight = and_parts (a && b && c && d && e && f && g) h last.0 in
    (seven a b c d e f g eight.0, eight.1, last.1)

-- fewer statements stand before it, and fewer loops and fewer blocks round it, than there may be
pub has_room : (p : Surroundings) (h : Head) (body : StmtTrees) → loop_fits p h body ≡ true → (p.statements < 4000) × (length p.variables < 6) × (p.depth < 100)
has_room p h body q =
    let all = eleven (is_within p (Do h body)) (is_name h.variable) (expr_fits h.first) (expr_fits h.last) (expr_fits h.step)
    (not (is_among h.variable p.variables)) (not (is_among h.variable p.private)) (nat_lt (length p.variables) 6) (nat_lt p.depth 100)
    (private_fits p h) (list_all is_name h.rejected) q in
    let few = three (nat_lt p.statements 4000) (nat_le (length (own_accesses p.constants p.variables (Do h body))) 64) (nat_le (length (own_text (Do h body))) 1300) all.0 in
    (ltb-true p.statements 4000 few, ltb-true (length p.variables) 6 all.1, ltb-true p.depth 100 all.2)
