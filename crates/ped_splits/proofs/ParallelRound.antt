-- The outermost PARALLEL DO round a gap, where there is one.
use Rattle.std.proofs.Common.{◌≡◌, ◌⊎◌, ℕ, ◌+◌, Bool, true, false, inl, inr, refl, ap}
use Rattle.ped_tree.specs.Tree.{CondTree, Head, StmtTree, StmtTrees, If, Do, more_stmts}
use Rattle.ped_tree.specs.Numbering.{statement_count, statements_count}
use Rattle.ped_rules.specs.ped_steps.specs.Replacing.{alone}
use Rattle.ped_rules.specs.ped_steps.specs.Runs.Gaps.{Gap, at_front, past, in_then, in_else, in_body, filled, number_at}
use Rattle.ped_splits.proofs.SerialPaths.{IsSerial}

-- a gap in a PARALLEL DO, round which no other one stands
pub record Round (g : Gap) : Type 0 where
  pub outer : Gap
  pub head : Head
  pub inner : Gap
  pub parallel : head.parallel ≡ true
  pub serial : IsSerial outer
  pub fills : (ts : StmtTrees) → filled g ts ≡ filled outer (alone (Do head (filled inner ts)))
  pub numbers : (n : ℕ) → number_at g n ≡ number_at inner (number_at outer n + 1)

behind_one : (x : StmtTree) (g : Gap) → IsSerial g ⊎ Round g → IsSerial (past x g) ⊎ Round (past x g)
behind_one x g (inl s) = inl s
behind_one x g (inr r) = inr (record { outer = past x r.outer; head = r.head; inner = r.inner; parallel = r.parallel; serial = r.serial; fills = λ ts. ap (more_stmts x) (r.fills ts); numbers = λ n. r.numbers (n + statement_count x) })

in_first : (c : CondTree) (g : Gap) (b rest : StmtTrees) → IsSerial g ⊎ Round g → IsSerial (in_then c g b rest) ⊎ Round (in_then c g b rest)
in_first c g b rest (inl s) = inl s
in_first c g b rest (inr r) = inr (record {
  outer = in_then c r.outer b rest;
  head = r.head;
  inner = r.inner;
  parallel = r.parallel;
  serial = r.serial;
  fills = λ ts. ap (λ (us : StmtTrees). more_stmts (If c us b) rest) (r.fills ts);
  numbers = λ n. r.numbers (n + 1);
})

in_second : (c : CondTree) (a : StmtTrees) (g : Gap) (rest : StmtTrees) → IsSerial g ⊎ Round g → IsSerial (in_else c a g rest) ⊎ Round (in_else c a g rest)
in_second c a g rest (inl s) = inl s
in_second c a g rest (inr r) = inr (record {
  outer = in_else c a r.outer rest;
  head = r.head;
  inner = r.inner;
  parallel = r.parallel;
  serial = r.serial;
  fills = λ ts. ap (λ (us : StmtTrees). more_stmts (If c a us) rest) (r.fills ts);
  numbers = λ n. r.numbers (n + 1 + statements_count a);
})

in_loop_body : (h : Head) (g : Gap) (rest : StmtTrees) → h.parallel ≡ false → IsSerial g ⊎ Round g → IsSerial (in_body h g rest) ⊎ Round (in_body h g rest)
in_loop_body h g rest e (inl s) = inl (e, s)
in_loop_body h g rest e (inr r) = inr (record {
  outer = in_body h r.outer rest;
  head = r.head;
  inner = r.inner;
  parallel = r.parallel;
  serial = (e, r.serial);
  fills = λ ts. ap (λ (us : StmtTrees). more_stmts (Do h us) rest) (r.fills ts);
  numbers = λ n. r.numbers (n + 1);
})

by_head : (h : Head) (g : Gap) (rest : StmtTrees) (b : Bool) → h.parallel ≡ b → IsSerial g ⊎ Round g → IsSerial (in_body h g rest) ⊎ Round (in_body h g rest)
by_head h g rest true e r = inr (record { outer = at_front rest; head = h; inner = g; parallel = e; serial = tt; fills = λ ts. refl; numbers = λ n. refl })
by_head h g rest false e r = in_loop_body h g rest e r

pub outermost : (g : Gap) → IsSerial g ⊎ Round g
outermost (at_front rest) = inl tt
outermost (past x g) = behind_one x g (outermost g)
outermost (in_then c g b rest) = in_first c g b rest (outermost g)
outermost (in_else c a g rest) = in_second c a g rest (outermost g)
outermost (in_body h g rest) = by_head h g rest h.parallel refl (outermost g)
