-- Declarations that differ in the bounds of arrays alone name the same constants, with the same values.
use Rattle.std.proofs.Common.{◌≡◌, List, [], ◌∷◌, ◌++◌, refl, sym, ap, ◌∙◌, inl, inr, append_assoc}
use Rattle.std.specs.List.{flat_map}
use Rattle.ped_laws.specs.ped_flow.specs.ped_tree.specs.Tree.{DeclTree, Program, Implicit, Integer, Dimension, Parameter, Save, Remark, ProgramTree}
use Rattle.ped_laws.specs.ped_flow.specs.ped_tree.specs.Accesses.{constants_in, constant_names}
use Rattle.ped_laws.specs.ped_graph.specs.ped_symbols.specs.Values.{Values, items, behind_items, behind_decl}
use Rattle.ped_laws.specs.ped_graph.specs.ped_symbols.specs.Sites.{Site, declaration, statement, private_names, decl_sites, stmts_sites}
use Rattle.ped_laws.specs.ped_graph.specs.ped_symbols.specs.NameRefusals.{Before, at_first, behind_site, behind_sites}
use Rattle.ped_laws.specs.ped_graph.specs.ped_symbols.specs.Kinds.{at_last}
use Rattle.ped_rows.specs.Shapes.{DeclaresAlike, DeclareAlike, HaveSameShapes}

-- what doesn't look at declarators is the same of declarations that differ in bounds alone
alike : {A : Type 0} (f : DeclTree → A) (x : A) → ((ds : _) → f (Integer ds) ≡ x) → ((ds : _) → f (Dimension ds) ≡ x) → (d e : DeclTree) → DeclaresAlike d e → f d ≡ f e
alike f x integer dimension d e (inl h) = ap f h
alike f x integer dimension d e (inr (ds, es, ranks, inl h)) = ap f h.0 ∙ integer ds ∙ sym (ap f h.1 ∙ integer es)
alike f x integer dimension d e (inr (ds, es, ranks, inr h)) = ap f h.0 ∙ dimension ds ∙ sym (ap f h.1 ∙ dimension es)

pub names_alike : (ds es : List DeclTree) → DeclareAlike ds es → constant_names ds ≡ constant_names es
names_alike [] [] h = refl
names_alike [] (e ∷ es) h = absurd h
names_alike (d ∷ ds) [] h = absurd h
names_alike (d ∷ ds) (e ∷ es) h = let first = alike constants_in [] (λ xs. refl) (λ xs. refl) d e h.0 in let rest = names_alike ds es h.1 in λ i. first i ++ rest i

-- the values after sites depend on those before them
behind_append : (b : Before) (xs ys : List Site) → behind_sites b (xs ++ ys) ≡ behind_sites (behind_sites b xs) ys
behind_append b [] ys = refl
behind_append b (x ∷ xs) ys = behind_append (behind_site b x) xs ys

behind_declaration : (b : Before) (d : DeclTree) → (behind_sites b (decl_sites d)).values ≡ behind_items b.values (items d)
behind_declaration b (Program x) = refl
behind_declaration b Implicit = refl
behind_declaration b (Integer ds) = refl
behind_declaration b (Dimension ds) = refl
behind_declaration b (Parameter values) = refl
behind_declaration b (Save names) = refl
behind_declaration b (Remark text) = refl

sites_alike : (sites : List Site) (b d : Before) → b.values ≡ d.values → (behind_sites b sites).values ≡ (behind_sites d sites).values
sites_alike [] b d h = h
sites_alike (declaration x ∷ rest) b d h = sites_alike rest (behind_site b (declaration x)) (behind_site d (declaration x)) (ap (λ (v : Values). behind_decl v x) h)
sites_alike (statement x ∷ rest) b d h = sites_alike rest (behind_site b (statement x)) (behind_site d (statement x)) h
sites_alike (private_names names ∷ rest) b d h = sites_alike rest b d h

declared_alike : (ds es : List DeclTree) (sites : List Site) → DeclareAlike ds es → (b d : Before) → b.values ≡ d.values → (behind_sites b (flat_map decl_sites ds ++ sites)).values ≡ (behind_sites d (flat_map decl_sites es ++ sites)).values
declared_alike [] [] sites h b d same = sites_alike sites b d same
declared_alike [] (e ∷ es) sites h b d same = absurd h
declared_alike (x ∷ ds) [] sites h b d same = absurd h
declared_alike (x ∷ ds) (y ∷ es) sites h b d same =
    let its : items x ≡ items y = alike items [] (λ xs. refl) (λ xs. refl) x y h.0 in
    let one : (behind_sites b (decl_sites x)).values ≡ (behind_sites d (decl_sites y)).values = behind_declaration b x ∙ ((λ i. behind_items (same i) (its i)) ∙ sym (behind_declaration d y)) in
    parted b x ds ∙ (declared_alike ds es sites h.1 (behind_sites b (decl_sites x)) (behind_sites d (decl_sites y)) one ∙ sym (parted d y es))
  where
    parted : (c : Before) (z : DeclTree) (zs : List DeclTree) → (behind_sites c (flat_map decl_sites (z ∷ zs) ++ sites)).values ≡ (behind_sites (behind_sites c (decl_sites z)) (flat_map decl_sites zs ++ sites)).values
    parted c z zs =
        ap (λ (xs : List Site). (behind_sites c xs).values) (append_assoc (decl_sites z) (flat_map decl_sites zs) sites)
        ∙ ap (λ (k : Before). k.values) (behind_append c (decl_sites z) (flat_map decl_sites zs ++ sites))

pub values_alike : (t u : ProgramTree) → HaveSameShapes t u → (at_last t).values ≡ (at_last u).values
values_alike t u h =
    declared_alike t.decls u.decls (stmts_sites t.body) h.decls at_first at_first refl
    ∙ ap (λ xs. (behind_sites at_first (flat_map decl_sites u.decls ++ stmts_sites xs)).values) h.body
