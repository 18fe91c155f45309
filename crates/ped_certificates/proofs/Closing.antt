-- Values that satisfy the rows of a branch satisfy those of one that a step leaves of it.
use Rattle.std.proofs.Common.{◌≡◌, ℕ, ◌-◌, refl, sym, subst, arith, ℤ, pos, negsuc, ◌+ℤ◌, ◌-ℤ◌, ◌*ℤ◌, neg_ℤ, ◌≤ℤ◌, ◌<ℤ◌, List, [], ◌∷◌, ◌++◌, get_or, Bool, true, false, ◌&&◌, cond, Option, Some, None, nat_le, ◌⊎◌, inl, inr, true≢false}
use Rattle.std.specs.Option.{option_map_or}
use Rattle.std.proofs.lemmas.Int.{by_lt_z, ints}
use Rattle.std.proofs.lemmas.Option.{option_and_then_some, cond_some}
use Rattle.ped_certificates.specs.declared.systems.Row.{Row}
use Rattle.ped_certificates.specs.declared.systems.Step.{Step}
use Rattle.ped_certificates.specs.declared.systems.Step.TheVariants.{Cut, Gcd, Split}
use Rattle.ped_certificates.specs.declared.systems.System.{System}
use Rattle.ped_certificates.specs.Rows.{dot, Holds, Meets}
use Rattle.ped_certificates.specs.Certificates.{sum_of, cut_of, is_never, is_indivisible, only_at, at_most, more_than, with_row, after, close, refutes}
use Rattle.ped_certificates.proofs.Products.{linear}
use Rattle.ped_certificates.proofs.Values.{dot-only}
use Rattle.ped_certificates.proofs.Totals.{option_map_some, total_holds, cut_holds, never_holds, indivisible_holds}

module _ (values : List ℤ) where
  -- the values satisfy the rows of one of these branches
  abbrev MeetsSome : List (List Row) → Type 0
  MeetsSome [] = ⊥
  MeetsSome (rows ∷ branches) = Meets rows values ⊎ MeetsSome branches

  some_left : (first second : List (List Row)) → MeetsSome first → MeetsSome (first ++ second)
  some_left [] second h = absurd h
  some_left (rows ∷ first) second (inl h) = inl h
  some_left (rows ∷ first) second (inr h) = inr (some_left first second h)

  some_right : (first second : List (List Row)) → MeetsSome second → MeetsSome (first ++ second)
  some_right [] second h = h
  some_right (rows ∷ first) second h = inr (some_right first second h)

  meets_more : (rows : List Row) (r : Row) → Meets rows values → Holds r values → Meets (rows ++ r ∷ []) values
  meets_more [] r h k = (k, tt)
  meets_more (s ∷ rows) r h k = (h.0, meets_more rows r h.1 k)

  meets_with_row : (rows : List Row) (r : Row) → Meets rows values → Holds r values → MeetsSome (with_row rows r)
  meets_with_row rows r h k = by (is_never r) refl
    where
      by : (t : Bool) → is_never r ≡ t → MeetsSome (cond t [] ((rows ++ r ∷ []) ∷ []))
      by true e = never_holds values r e k
      by false e = inl (meets_more rows r h k)

  -- an unknown is at most k, or more
  halves : (n u : ℕ) (k : ℤ) → Holds (at_most n u k) values ⊎ Holds (more_than n u k) values
  halves n u k =
      let x = get_or values (u - 1) (pos 0) in
      by_lt_z k x
      (λ h. inr (above k x (pos 1 *ℤ x) (dot (only_at n u (pos 1)) values) h (dot-only (u - 1) (n - u) (pos 1) values) (one_time x)))
      (λ h. inl (below k x (negsuc 0 *ℤ x) (dot (only_at n u (negsuc 0)) values) h (dot-only (u - 1) (n - u) (negsuc 0) values) (minus_one_time x)))
    where
      one_time : (x : ℤ) → pos 1 *ℤ x ≡ x
      one_time x = omega (arith, ints)

      minus_one_time : (x : ℤ) → negsuc 0 *ℤ x ≡ neg_ℤ x
      minus_one_time x = omega (arith, ints)

      above : (k x p d : ℤ) → k <ℤ x → d ≡ p → p ≡ x → pos 0 ≤ℤ (d +ℤ (negsuc 0 -ℤ k))
      above k x p d h e f = omega (arith, linear)

      below : (k x p d : ℤ) → x ≤ℤ k → d ≡ p → p ≡ neg_ℤ x → pos 0 ≤ℤ (d +ℤ k)
      below k x p d h e f = omega (arith, linear)

  meets_after : (n : ℕ) (rows : List Row) (step : Step) (branches : List (List Row)) → after n rows step ≡ Some branches → Meets rows values → MeetsSome branches
  meets_after n rows (Cut parts d) branches e h =
      let t = option_map_some (with_row rows) (cut_of n rows parts d) branches e in
      subst MeetsSome t.2 (meets_with_row rows t.0 h (cut_holds values n rows parts d t.0 t.1 h))
  meets_after n rows (Gcd parts d) branches e h =
      option_and_then_some (λ row. cond (is_indivisible d row) (Some []) None) (sum_of n rows parts) branches e
      (λ row from made.
      let t = cond_some (is_indivisible d row) [] branches made in
      absurd (indivisible_holds values d row t.0 (total_holds values n rows parts row from h)))
  meets_after n rows (Split u k) branches e h =
      let both : List (List Row) = (rows ++ at_most n u k ∷ []) ∷ (rows ++ more_than n u k ∷ []) ∷ [] in
      let t = cond_some (nat_le 1 u && nat_le u n) both branches e in
      subst MeetsSome t.1 (by (halves n u k))
    where
      by : Holds (at_most n u k) values ⊎ Holds (more_than n u k) values → MeetsSome ((rows ++ at_most n u k ∷ []) ∷ (rows ++ more_than n u k ∷ []) ∷ [])
      by (inl x) = inl (meets_more rows (at_most n u k) h x)
      by (inr x) = inr (inl (meets_more rows (more_than n u k) h x))

  went_on : {X : Type 0} (f : X → Bool) (o : Option X) → option_map_or f o false ≡ true → (x : X) × (o ≡ Some x) × (f x ≡ true)
  went_on f (Some x) h = (x, refl, h)
  went_on f None h = absurd (true≢false (sym h))

  -- no values satisfy the rows of a branch that steps close
  none_left : (n : ℕ) (steps : List Step) (branches : List (List Row)) → close n branches steps ≡ true → MeetsSome branches → ⊥
  none_left n steps [] e h = h
  none_left n [] (rows ∷ branches) e h = true≢false (sym e)
  none_left n (step ∷ steps) (rows ∷ branches) e h =
      let t = went_on (λ parts. close n (parts ++ branches) steps) (after n rows step) e in
      none_left n steps (t.0 ++ branches) t.2 (by t.0 t.1 h)
    where
      by : (parts : List (List Row)) → after n rows step ≡ Some parts → MeetsSome (rows ∷ branches) → MeetsSome (parts ++ branches)
      by parts made (inl x) = some_left parts branches (meets_after n rows step parts made x)
      by parts made (inr x) = some_right parts branches x

pub refuted : (system : System) (steps : List Step) → refutes system steps ≡ true → (values : List ℤ) → Meets system.rows values → ⊥
refuted system steps e values h = none_left values system.unknowns steps (system.rows ∷ []) e (inl h)
