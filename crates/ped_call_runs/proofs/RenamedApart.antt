-- Variables of a subroutine that get new names get different ones.
use Rattle.std.proofs.Common.{◌≡◌, ℕ, List, [], ◌∷◌, ◌++◌, map, Bool, true, false, ◌||◌, Option, Some, None, is_some, refl, sym, ap, ◌∙◌, subst, ◌⊎◌, inl, inr, if◌then◌else◌}
use Rattle.std.proofs.lemmas.Bool.{or_parts, or_from, or_right, both_ways}
use Rattle.ped_base.specs.Lists.{is_same_text, is_among}
use Rattle.ped_base.proofs.NameEquality.{same_is, same_itself}
use Rattle.ped_tree.proofs.NameLaws.Collected.{among_append}
use Rattle.ped_tree.specs.Tree.{ExprTree, Var}
use Rattle.ped_steps.specs.ped_symbols.specs.declared.symbols.Kind.{Kind}
use Rattle.ped_steps.specs.ped_symbols.specs.Entries.{entry_of, with_entry}
use Rattle.ped_steps.specs.ped_symbols.specs.Kinds.{kind_in}
use Rattle.ped_steps.specs.ped_symbols.specs.NameRefusals.{has_twice}
use Rattle.ped_calls.specs.ped_units.specs.Units.{ProgramUnit}
use Rattle.ped_calls.specs.ped_units.specs.Refusals.{for_names}
use Rattle.ped_calls.specs.ped_units.specs.Expanding.{free_name, Meanings, name_or, Renamed, with_renamed, renamed}
use Rattle.ped_call_runs.proofs.EachNames.{Each}
use Rattle.ped_call_runs.proofs.FreeWritten.{free_named}
use Rattle.ped_call_runs.proofs.MeaningEntries.{entry_stays, entry_follows}
use Rattle.ped_call_runs.proofs.WrittenNames.{IsName, AreNames}

-- the expression of an entry, else another
abbrev entry_or : ExprTree → Option ExprTree → ExprTree
entry_or e None = e
entry_or e (Some f) = f

-- an entry of a list with one more is one of the list, or that
entry_split : (m : Meanings) (x : List ℕ) (v : ExprTree) (y : List ℕ) (e : ExprTree) → entry_of m x ≡ None → entry_of (with_entry m x v) y ≡ Some e → (entry_of m y ≡ Some e) ⊎ ((y ≡ x) × (v ≡ e))
entry_split m x v y e none h = by (entry_of m y) refl (ap (λ (o : Option ExprTree). entry_of (if is_some o then m else m ++ (x, v) ∷ []) y) (sym none) ∙ h)
  where
    new : (t : Bool) → is_same_text y x ≡ t → (if t then Some v else None) ≡ Some e → (entry_of m y ≡ Some e) ⊎ ((y ≡ x) × (v ≡ e))
    new true s k = inr (same_is y x s, ap (entry_or v) k)
    new false s k = absurd cc

    by : (o : Option ExprTree) → entry_of m y ≡ o → entry_of (m ++ (x, v) ∷ []) y ≡ Some e → (entry_of m y ≡ Some e) ⊎ ((y ≡ x) × (v ≡ e))
    by (Some w) s k = inl (s ∙ sym (entry_stays m ((x, v) ∷ []) y w s) ∙ k)
    by None s k = new (is_same_text y x) refl (sym (entry_follows m ((x, v) ∷ []) y s) ∙ k)

same_name : (x y : List ℕ) → Var x ≡ Var y → x ≡ y
same_name x y e = ap (name_or x) e

-- names that stand for names of a kind are taken, and each stands for one
module _ (P : List ℕ → Type 0) where
  pub record Apart (r : Renamed) : Type 0 where
    pub taken : (x y : List ℕ) → P x → entry_of r.meanings x ≡ Some (Var y) → is_among y r.given.taken ≡ true
    pub once : (x z y : List ℕ) → P x → P z → IsName y → entry_of r.meanings x ≡ Some (Var y) → entry_of r.meanings z ≡ Some (Var y) → x ≡ z

  with_new : (x : List ℕ) (kind : Option Kind) (r : Renamed) → entry_of r.meanings x ≡ None → Apart r → Apart (with_renamed x kind r)
  with_new x kind r none h = record {
    taken = λ z y p e. now y (split z y e) (λ old. h.taken z y p old);
    once = λ a c y p q is e f. same a c y p q is (split a y e) (split c y f);
  }
    where
      new : List ℕ
      new = free_name r.given.taken

      split : (z y : List ℕ) → entry_of (with_entry r.meanings x (Var new)) z ≡ Some (Var y) → (entry_of r.meanings z ≡ Some (Var y)) ⊎ ((z ≡ x) × (Var new ≡ Var y))
      split z y e = entry_split r.meanings x (Var new) z (Var y) none e

      now : {A B : Type 0} (y : List ℕ) → A ⊎ (B × (Var new ≡ Var y)) → (A → is_among y r.given.taken ≡ true) → is_among y (r.given.taken ++ new ∷ []) ≡ true
      now y (inl old) f = among_append y r.given.taken (new ∷ []) ∙ ap (λ (t : Bool). t || is_among y (new ∷ [])) (f old)
      now y (inr own) f =
          among_append y r.given.taken (new ∷ [])
          ∙ or_right (is_among y r.given.taken) (is_among y (new ∷ [])) (ap (λ (t : Bool). t || false) (ap (is_same_text y) (same_name new y own.1) ∙ same_itself y))

      never : (y : List ℕ) → IsName y → Var new ≡ Var y → is_among y r.given.taken ≡ true → ⊥
      never y is e m =
          let e2 : y ≡ new = sym (same_name new y e) in
          both_ways (is_among new r.given.taken) (free_named r.given.taken (subst IsName e2 is)) (ap (λ (z : List ℕ). is_among z r.given.taken) (sym e2) ∙ m)

      same : (a c y : List ℕ) → P a → P c → IsName y → (entry_of r.meanings a ≡ Some (Var y)) ⊎ ((a ≡ x) × (Var new ≡ Var y)) → (entry_of r.meanings c ≡ Some (Var y)) ⊎ ((c ≡ x) × (Var new ≡ Var y)) → a ≡ c
      same a c y p q is (inl e) (inl f) = h.once a c y p q is e f
      same a c y p q is (inl e) (inr f) = absurd (never y is f.1 (h.taken a y p e))
      same a c y p q is (inr e) (inl f) = absurd (never y is e.1 (h.taken c y q f))
      same a c y p q is (inr e) (inr f) = e.0 ∙ sym f.0

  pub renamed_apart : (v : ProgramUnit) (xs : List (List ℕ)) (r : Renamed) → Apart r → Apart (renamed v xs r)
  renamed_apart v [] r h = h
  renamed_apart v (x ∷ xs) r h = renamed_apart v xs (if is_some (entry_of r.meanings x) then r else with_renamed x (kind_in (for_names v) x) r) (go (entry_of r.meanings x) refl)
    where
      go : (o : Option ExprTree) → entry_of r.meanings x ≡ o → Apart (if is_some o then r else with_renamed x (kind_in (for_names v) x) r)
      go (Some e) k = h
      go None k = with_new x (kind_in (for_names v) x) r k h

-- different names go to different ones
module _ (P : List ℕ → Type 0) (f : List ℕ → List ℕ) (once : (x z : List ℕ) → P x → P z → IsName (f x) → f x ≡ f z → x ≡ z) where
  absent : (x : List ℕ) (xs : List (List ℕ)) → P x → Each P xs → IsName (f x) → is_among x xs ≡ false → is_among (f x) (map f xs) ≡ false
  absent x [] p each is h = refl
  absent x (z ∷ zs) p each is h =
      let parts = or_parts (is_same_text x z) (is_among x zs) h in
      or_from _ _ (differs (is_same_text (f x) (f z)) refl parts.0) (absent x zs p each.1 is parts.1)
    where
      differs : (t : Bool) → is_same_text (f x) (f z) ≡ t → is_same_text x z ≡ false → t ≡ false
      differs false e k = refl
      differs true e k = absurd (both_ways (is_same_text x z) k (ap (is_same_text x) (sym (once x z p each.0 is (same_is (f x) (f z) e))) ∙ same_itself x))

  pub none_twice : (xs : List (List ℕ)) → Each P xs → AreNames (map f xs) → has_twice xs ≡ false → has_twice (map f xs) ≡ false
  none_twice [] each is h = refl
  none_twice (x ∷ xs) each is h =
      let parts = or_parts (is_among x xs) (has_twice xs) h in
      or_from _ _ (absent x xs each.0 each.1 is.0 parts.0) (none_twice xs each.1 is.1 parts.1)
