-- Where a piece stands in the whole trace: its number in the expansion leads to its number in the unit.
use Rattle.std.proofs.Common.{◌≡◌, ℕ, suc, ◌+◌, ◌≤◌, ◌<◌, List, [], ◌∷◌, ◌++◌, length, refl, sym, ap, ◌∙◌, arith, append_assoc, append-nil}
use Rattle.ped_call_runs.proofs.RisingNumbers.{passed, number_past}
use Rattle.ped_call_runs.proofs.Traces.{Trace}
use Rattle.ped_call_runs.proofs.TraceNumbers.{Lie, lie_wider, lie_joined, length_joined, passed_joined, passed_all, passed_none, IsCounted}

-- a piece with number n in the unit and number j in the expansion, of so many statements there and with these gaps, stands in the trace with all gaps
pub record IsPlaced (all : List ℕ) (n j count : ℕ) (gaps : List ℕ) : Type 0 where
  pub front : List ℕ
  pub behind : List ℕ
  pub last : ℕ
  pub whole : all ≡ front ++ (gaps ++ behind)
  pub number : n ≡ j + length front
  pub before : Lie 0 j front
  pub later : Lie (j + count) last behind

three : (a b c : ℕ) → c ≡ a → b ≡ 0 → a + b ≡ c
three a b c h k = omega (arith, h, k)

none_of_both : (a b : ℕ) → a ≡ 0 → b ≡ 0 → a + b ≡ 0
none_of_both a b h k = omega (arith, h, k)

-- the number in the expansion leads to that in the unit
pub placed_number : (all : List ℕ) (n j size count : ℕ) (t : Trace) → IsPlaced all n j count t.gaps → IsCounted j size count t → number_past all j ≡ n
placed_number all n j size count t p c =
    ap (λ (gs : List ℕ). j + passed gs j) p.whole
    ∙ ap (λ (m : ℕ). j + m)
    (passed_joined p.front (t.gaps ++ p.behind) j
    ∙ three (passed p.front j) (passed (t.gaps ++ p.behind) j) (length p.front) (sym (passed_all 0 j j p.front p.before (same_le j)))
    (passed_joined t.gaps p.behind j ∙ none_of_both (passed t.gaps j) (passed p.behind j) (passed_none j (j + count) j t.gaps c.range (same_le j)) (passed_none (j + count) p.last j p.behind p.later (less_le j count))))
    ∙ sym p.number
  where
    same_le : (j : ℕ) → j ≤ j
    same_le j = omega (arith)

    less_le : (j c : ℕ) → j ≤ j + c
    less_le j c = omega (arith)

-- a piece of two parts, one behind the other: the first part
pub placed_first : (all : List ℕ) (n j b c d : ℕ) (s t : Trace) → IsPlaced all n j (c + d) (s.gaps ++ t.gaps) → IsCounted (j + c) b d t → IsPlaced all n j c s.gaps
placed_first all n j b c d s t p k = record {
  front = p.front;
  behind = t.gaps ++ p.behind;
  last = j + c + d + p.last;
  whole = p.whole ∙ ap (λ (gs : List ℕ). p.front ++ gs) (append_assoc s.gaps t.gaps p.behind);
  number = p.number;
  before = p.before;
  later = lie_joined (j + c) (j + c + d + p.last) t.gaps p.behind (lie_wider (j + c) (j + c + d) (j + c) (j + c + d + p.last) t.gaps (omega (arith)) (omega (arith)) k.range) (lie_wider (j + (c + d)) p.last (j + c) (j + c + d + p.last) p.behind (omega (arith)) (omega (arith)) p.later);
}

numbers_behind : (n j a c f x z : ℕ) → n ≡ j + f → a ≡ c + x → z ≡ f + x → n + a ≡ j + c + z
numbers_behind n j a c f x z h k l = omega (arith, h, k, l)

-- and the second part
pub placed_second : (all : List ℕ) (n j a c d : ℕ) (s t : Trace) → IsPlaced all n j (c + d) (s.gaps ++ t.gaps) → IsCounted j a c s → IsPlaced all (n + a) (j + c) d t.gaps
placed_second all n j a c d s t p h = record {
  front = p.front ++ s.gaps;
  behind = p.behind;
  last = p.last;
  whole = p.whole ∙ ap (λ (gs : List ℕ). p.front ++ gs) (append_assoc s.gaps t.gaps p.behind) ∙ sym (append_assoc p.front s.gaps (t.gaps ++ p.behind));
  number = numbers_behind n j a c (length p.front) (length s.gaps) (length (p.front ++ s.gaps)) p.number h.sizes (length_joined p.front s.gaps);
  before = lie_joined 0 (j + c) p.front s.gaps (lie_wider 0 j 0 (j + c) p.front (omega (arith)) (omega (arith)) p.before) (lie_wider j (j + c) 0 (j + c) s.gaps (omega (arith)) (omega (arith)) h.range);
  later = lie_wider (j + (c + d)) p.last (j + c + d) p.last p.behind (omega (arith)) (omega (arith)) p.later;
}

-- what stands in a statement, behind the statement's own number
pub placed_inside : (all : List ℕ) (n j count : ℕ) (gaps : List ℕ) → IsPlaced all n j (count + 1) gaps → IsPlaced all (n + 1) (j + 1) count gaps
placed_inside all n j count gaps p = record {
  front = p.front;
  behind = p.behind;
  last = p.last;
  whole = p.whole;
  number = let x = p.number in omega (arith, x);
  before = lie_wider 0 j 0 (j + 1) p.front (omega (arith)) (omega (arith)) p.before;
  later = lie_wider (j + (count + 1)) p.last (j + 1 + count) p.last p.behind (omega (arith)) (omega (arith)) p.later;
}

-- behind an argument that is no statement of the block
pub placed_gap : (all : List ℕ) (n j count : ℕ) (gaps : List ℕ) → 0 < j → IsPlaced all n j count (j ∷ gaps) → IsPlaced all (n + 1) j count gaps
placed_gap all n j count gaps less p = record {
  front = p.front ++ j ∷ [];
  behind = p.behind;
  last = p.last;
  whole = p.whole ∙ sym (append_assoc p.front (j ∷ []) (gaps ++ p.behind));
  number = let x = p.number in let l = length_joined p.front (j ∷ []) in omega (arith, x, l);
  before = lie_joined 0 j p.front (j ∷ []) p.before (less, omega (arith), tt);
  later = p.later;
}

-- behind one that is
pub placed_next : (all : List ℕ) (n j made more : ℕ) (gaps : List ℕ) → IsPlaced all n j (suc made + more) gaps → IsPlaced all (n + 1) (j + 1) (made + more) gaps
placed_next all n j made more gaps p = record {
  front = p.front;
  behind = p.behind;
  last = p.last;
  whole = p.whole;
  number = let x = p.number in omega (arith, x);
  before = lie_wider 0 j 0 (j + 1) p.front (omega (arith)) (omega (arith)) p.before;
  later = lie_wider (j + (suc made + more)) p.last (j + 1 + (made + more)) p.last p.behind (omega (arith)) (omega (arith)) p.later;
}

-- the arguments in the block of a CALL, whose first statement is the comment
pub placed_arguments : (all : List ℕ) (n j count : ℕ) (gaps : List ℕ) → IsPlaced all n j (count + 1) gaps → IsPlaced all (n + 1) (j + 1 + 0) count gaps
placed_arguments all n j count gaps p = record {
  front = p.front;
  behind = p.behind;
  last = p.last;
  whole = p.whole;
  number = let x = p.number in omega (arith, x);
  before = lie_wider 0 j 0 (j + 1 + 0) p.front (omega (arith)) (omega (arith)) p.before;
  later = lie_wider (j + (count + 1)) p.last (j + 1 + 0 + count) p.last p.behind (omega (arith)) (omega (arith)) p.later;
}

behind_arguments : (n j many made front gaps all : ℕ) → n ≡ j + front → many ≡ made + gaps → all ≡ front + gaps → n + 1 + many ≡ j + 1 + 0 + made + all
behind_arguments n j many made front gaps all h k l = omega (arith, h, k, l)

-- the statements of the subroutine in the block of a CALL, behind the assignments
pub placed_body : (all : List ℕ) (n j many made body : ℕ) (arguments inside : List ℕ) → IsPlaced all n j (made + body + 1) (arguments ++ inside) → many ≡ made + length arguments → Lie j (j + 1 + 0 + made) arguments
    → IsPlaced all (n + 1 + many) (j + 1 + 0 + made) body inside
placed_body all n j many made body arguments inside p sizes range = record {
  front = p.front ++ arguments;
  behind = p.behind;
  last = p.last;
  whole = p.whole ∙ ap (λ (gs : List ℕ). p.front ++ gs) (append_assoc arguments inside p.behind) ∙ sym (append_assoc p.front arguments (inside ++ p.behind));
  number = behind_arguments n j many made (length p.front) (length arguments) (length (p.front ++ arguments)) p.number sizes (length_joined p.front arguments);
  before = lie_joined 0 (j + 1 + 0 + made) p.front arguments (lie_wider 0 j 0 (j + 1 + 0 + made) p.front (omega (arith)) (omega (arith)) p.before) (lie_wider j (j + 1 + 0 + made) 0 (j + 1 + 0 + made) arguments (omega (arith)) (omega (arith)) range);
  later = lie_wider (j + (made + body + 1)) p.last (j + 1 + 0 + made + body) p.last p.behind (omega (arith)) (omega (arith)) p.later;
}

-- the whole trace
pub placed_all : (count : ℕ) (t : Trace) → IsPlaced t.gaps 1 1 count t.gaps
placed_all count t = record { front = []; behind = []; last = 0; whole = sym (append-nil t.gaps); number = refl; before = tt; later = tt }
