-- What the statements of the new program come from, one by one.
use Rattle.std.proofs.Common.{◌≡◌, ℕ, zero, suc, ◌+◌, ◌-◌, ◌<◌, ◌≤◌, ◌==◌, List, [], ◌∷◌, ◌++◌, map, length, filter, cond, take, get_or, Bool, true, false, Option, Some, None, if◌then◌else◌, refl, sym, ap, ◌∙◌, append-nil, eqb-true, arith}
use Rattle.std.specs.Prelude.{slice_get, nat_lt}
use Rattle.std.specs.List.{flat_map, range_with_len}
use Rattle.std.proofs.lemmas.Bool.{lt-ltb}
use Rattle.std.proofs.lemmas.Option.{slice_get-get_or}
use Rattle.std.proofs.lemmas.List.{append_assoc, map-append, take_more}
use Rattle.std.proofs.lemmas.List.Elements.{filter-append}
use Rattle.std.proofs.lemmas.Grind.{flat_map-append}
use Rattle.ped_tree.specs.Tree.{StmtTrees}
use Rattle.ped_splits.specs.Units.{units, homes, unit_of, is_unit, stands_in}
use Rattle.ped_splits.specs.Distributing.{numbers_of, pi_block_sources, loop_sources}
use Rattle.ped_splits.proofs.PiBlockOrders.{range_more}

some_not_none : (n : ℕ) → (suc n == 0) ≡ false
some_not_none n = by (suc n == 0) refl
  where
    by : (b : Bool) → (suc n == 0) ≡ b → (suc n == 0) ≡ false
    by true e = let same = eqb-true (suc n) 0 e in absurd (omega (arith, same))
    by false e = e

module _ (s : ℕ) (body : StmtTrees) where
  -- where a statement stands, as the code has it
  pub stands_at : (unit k d : ℕ) (found : List ℕ) → found ≡ homes 0 (units body) → k < length found → stands_in s body unit (s + 1 + k) ≡ (get_or found k d == unit)
  stands_at unit k d found are h =
      let back : s + 1 + k - (s + 1) ≡ k = omega arith in
      ap (is_unit unit)
      (ap (λ (b : Bool). if b then slice_get (homes 0 (units body)) (s + 1 + k - (s + 1)) else None) (lt-ltb s (s + 1 + k) (omega arith))
      ∙ ap (λ (i : ℕ). slice_get (homes 0 (units body)) i) back
      ∙ (λ i. slice_get (sym are i) k)
      ∙ slice_get-get_or found k d h)

  -- the statements of a unit among so many, and one more
  abbrev pub so_far : ℕ → ℕ → List (Option ℕ)
  so_far unit k = map Some (filter (stands_in s body unit) (range_with_len (s + 1) k))

  one_more : (unit k : ℕ) → so_far unit (k + 1) ≡ so_far unit k ++ map Some (cond (stands_in s body unit (s + 1 + k)) ((s + 1 + k) ∷ []) [])
  one_more unit k =
      ap (λ (ks : List ℕ). map Some (filter (stands_in s body unit) ks)) (range_more (s + 1) k (s + 1 + k) refl)
      ∙ ap (map Some) (filter-append (stands_in s body unit) (range_with_len (s + 1) k) ((s + 1 + k) ∷ []))
      ∙ map-append Some (filter (stands_in s body unit) (range_with_len (s + 1) k)) (cond (stands_in s body unit (s + 1 + k)) ((s + 1 + k) ∷ []) [])

  pub one_taken : (unit k n : ℕ) (before old new : List (Option ℕ)) → n ≡ s + 1 + k → stands_in s body unit (s + 1 + k) ≡ true → old ≡ before ++ so_far unit k → new ≡ old ++ Some n ∷ [] → new ≡ before ++ so_far unit (k + 1)
  one_taken unit k n before old new is holds was made =
      made ∙ (λ i. was i ++ Some (is i) ∷ []) ∙ append_assoc before (so_far unit k) (Some (s + 1 + k) ∷ [])
      ∙ ap (λ (b : Bool). before ++ (so_far unit k ++ map Some (cond b ((s + 1 + k) ∷ []) []))) (sym holds) ∙ ap (λ (xs : List (Option ℕ)). before ++ xs) (sym (one_more unit k))

  pub one_passed : (unit k : ℕ) (before old : List (Option ℕ)) → stands_in s body unit (s + 1 + k) ≡ false → old ≡ before ++ so_far unit k → old ≡ before ++ so_far unit (k + 1)
  one_passed unit k before old fails was =
      was ∙ ap (λ (xs : List (Option ℕ)). before ++ xs) (sym (append-nil (so_far unit k)))
      ∙ ap (λ (b : Bool). before ++ (so_far unit k ++ map Some (cond b ((s + 1 + k) ∷ []) []))) (sym fails) ∙ ap (λ (xs : List (Option ℕ)). before ++ xs) (sym (one_more unit k))

  -- the DO of a block so far, and a unit more
  pub next_unit : (head : Option ℕ) (block : List ℕ) (k d : ℕ) (before old new : List (Option ℕ)) → k < length block → old ≡ before ++ pi_block_sources s body head (take k block)
      → new ≡ old ++ map Some (numbers_of s body (get_or block k d)) → new ≡ before ++ pi_block_sources s body head (take (k + 1) block)
  next_unit head block k d before old new h was made =
      made ∙ ap (λ (xs : List (Option ℕ)). xs ++ map Some (numbers_of s body (get_or block k d))) was ∙ append_assoc before (pi_block_sources s body head (take k block)) (map Some (numbers_of s body (get_or block k d)))
      ∙ ap (λ (xs : List (Option ℕ)). before ++ (head ∷ xs)) (sym longer)
    where
      longer : map Some (flat_map (numbers_of s body) (take (k + 1) block)) ≡ map Some (flat_map (numbers_of s body) (take k block)) ++ map Some (numbers_of s body (get_or block k d))
      longer =
          ap (λ (is : List ℕ). map Some (flat_map (numbers_of s body) is)) (take_more block k d h)
          ∙ ap (map Some) (flat_map-append (numbers_of s body) (take k block) (get_or block k d ∷ []))
          ∙ map-append Some (flat_map (numbers_of s body) (take k block)) (numbers_of s body (get_or block k d) ++ [])
          ∙ ap (λ (ns : List ℕ). map Some (flat_map (numbers_of s body) (take k block)) ++ map Some ns) (append-nil (numbers_of s body (get_or block k d)))

  -- the DO loops so far, and one more
  loops_more : (b : List ℕ) (bs : List (List ℕ)) → loop_sources s body (bs ++ b ∷ []) ≡ loop_sources s body bs ++ pi_block_sources s body (if length bs == 0 then Some s else None) b
  loops_more b [] = append-nil (pi_block_sources s body (Some s) b)
  loops_more b (x ∷ bs) =
      ap (λ (xs : List (Option ℕ)). pi_block_sources s body (Some s) x ++ xs) (flat_map-append (pi_block_sources s body None) bs (b ∷ []) ∙ ap (λ (xs : List (Option ℕ)). flat_map (pi_block_sources s body None) bs ++ xs) (append-nil (pi_block_sources s body None b)))
      ∙ sym (append_assoc (pi_block_sources s body (Some s) x) (flat_map (pi_block_sources s body None) bs) (pi_block_sources s body None b))
      ∙ ap (λ (r : Bool). loop_sources s body (x ∷ bs) ++ pi_block_sources s body (if r then Some s else None) b) (sym (some_not_none (length bs)))

  pub next_loop : (bs : List (List ℕ)) (k : ℕ) (b : List ℕ) (head : Option ℕ) (before old new : List (Option ℕ)) → k < length bs → length (take k bs) ≡ k → b ≡ get_or bs k b → head ≡ (if k == 0 then Some s else None)
      → old ≡ before ++ loop_sources s body (take k bs) → new ≡ old ++ pi_block_sources s body head b → new ≡ before ++ loop_sources s body (take (k + 1) bs)
  next_loop bs k b head before old new h long is first was made =
      made ∙ (λ i. was i ++ pi_block_sources s body (first i) b) ∙ append_assoc before (loop_sources s body (take k bs)) (pi_block_sources s body (if k == 0 then Some s else None) b)
      ∙ ap (λ (n : ℕ). before ++ (loop_sources s body (take k bs) ++ pi_block_sources s body (if n == 0 then Some s else None) b)) (sym long)
      ∙ ap (λ (xs : List (Option ℕ)). before ++ xs) (sym (loops_more b (take k bs)))
      ∙ ap (λ (xs : List (List ℕ)). before ++ loop_sources s body xs) (ap (λ (x : List ℕ). take k bs ++ x ∷ []) is ∙ sym (take_more bs k b h))
