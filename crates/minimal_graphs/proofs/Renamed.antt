-- Graphs on the same vertices, one with edges of the other under numbers of its own: walks, paths and subdivisions along these.
use Rattle.std.proofs.Common.{◌≡◌, ℕ, suc, ◌<◌, Bool, true, if◌then◌else◌, List, [], ◌∷◌, ◌++◌, ◌==◌, ◌||◌, length, map, get_or, refl, sym, ap, ◌∙◌, subst, arith}
use Rattle.std.proofs.lemmas.List.{get_or-map, length-map}
use Rattle.permutations.specs.Members.{is_member, is_distinct}
use Rattle.permutations.proofs.Members.{member-head, member-tail}
use Rattle.multigraph.specs.Graph.{Multigraph, edge_count, ends_of, is_end, other_end}
use Rattle.graph_theory.specs.Path.{walk_end, walk_starts, IsWalk, IsPath}
use Rattle.kuratowski.specs.Subdivision.{pattern_edges, pair_at, branch_at, path_at, inner_vertices, all_inner, rest, IsSubdivision}
use Rattle.kuratowski.specs.declared.subdivision.Pattern.{Pattern}

-- an edge of g that passes the test has the number r in p, and the same ends there
pub record Renames (g p : Multigraph) (t : ℕ → Bool) (r : ℕ → ℕ) : Type 0 where
  pub edge_in : (f : ℕ) → f < edge_count g → t f ≡ true → r f < edge_count p
  pub same_ends : (f : ℕ) → f < edge_count g → t f ≡ true → ends_of p (r f) ≡ ends_of g f

module _ (g p : Multigraph) (t : ℕ → Bool) (r : ℕ → ℕ) (h : Renames g p t r) where
  pub same-end : (f z : ℕ) → f < edge_count g → t f ≡ true → is_end p z (r f) ≡ is_end g z f
  same-end f z l q = ap (λ (e : ℕ × ℕ). (e.0 == z) || (e.1 == z)) (h.same_ends f l q)

  pub same-other : (f z : ℕ) → f < edge_count g → t f ≡ true → other_end p (r f) z ≡ other_end g f z
  same-other f z l q = ap (λ (e : ℕ × ℕ). (if e.0 == z then e.1 else e.0)) (h.same_ends f l q)

  pub renamed-walk : (x : ℕ) (es : List ℕ) → IsWalk g x es → ((f : ℕ) → is_member f es ≡ true → t f ≡ true) → IsWalk p x (map r es)
  renamed-walk x [] w m = tt
  renamed-walk x (e ∷ es) w m =
      let q : t e ≡ true = m e (member-head e es) in
      ((h.edge_in e w.0.0 q, same-end e x w.0.0 q ∙ w.0.1), subst (λ (z : ℕ). IsWalk p z (map r es)) (sym (same-other e x w.0.0 q)) (renamed-walk (other_end g e x) es w.1 (λ f i. m f (member-tail f e es i))))

  pub renamed-starts : (x : ℕ) (es : List ℕ) → IsWalk g x es → ((f : ℕ) → is_member f es ≡ true → t f ≡ true) → walk_starts p x (map r es) ≡ walk_starts g x es
  renamed-starts x [] w m = refl
  renamed-starts x (e ∷ es) w m = ap (λ (l : List ℕ). x ∷ l)
      (ap (λ (z : ℕ). walk_starts p z (map r es)) (same-other e x w.0.0 (m e (member-head e es))) ∙ renamed-starts (other_end g e x) es w.1 (λ f i. m f (member-tail f e es i)))

  pub renamed-end : (x : ℕ) (es : List ℕ) → IsWalk g x es → ((f : ℕ) → is_member f es ≡ true → t f ≡ true) → walk_end p x (map r es) ≡ walk_end g x es
  renamed-end x [] w m = refl
  renamed-end x (e ∷ es) w m = ap (λ (z : ℕ). walk_end p z (map r es)) (same-other e x w.0.0 (m e (member-head e es))) ∙ renamed-end (other_end g e x) es w.1 (λ f i. m f (member-tail f e es i))

  pub renamed-path : (x y : ℕ) (es : List ℕ) → IsPath g x es y → ((f : ℕ) → is_member f es ≡ true → t f ≡ true) → IsPath p x (map r es) y
  renamed-path x y es a m = record {
    walk = renamed-walk x es a.walk m;
    arrives = renamed-end x es a.walk m ∙ a.arrives;
    vertices = subst (λ (l : List ℕ). is_distinct l ≡ true) (sym (ap (λ (l : List ℕ). l ++ walk_end p x (map r es) ∷ []) (renamed-starts x es a.walk m) ∙ ap (λ (z : ℕ). walk_starts g x es ++ z ∷ []) (renamed-end x es a.walk m))) a.vertices;
  }

  -- what is inside the paths is the same
  renamed-inner : (branch : List ℕ) (pairs : List (ℕ × ℕ)) (paths : List (List ℕ)) → ((k : ℕ) → k < length pairs → k < length paths → IsWalk g (branch_at branch (get_or pairs k (0, 0)).0) (path_at paths k))
      → ((k f : ℕ) → k < length paths → is_member f (path_at paths k) ≡ true → t f ≡ true)
      → all_inner p branch pairs (map (map r) paths) ≡ all_inner g branch pairs paths
  renamed-inner branch [] paths w m = refl
  renamed-inner branch (pair ∷ pairs) [] w m = refl
  renamed-inner branch (pair ∷ pairs) (path ∷ paths) w m =
      ap (λ (l : List ℕ). rest l ++ all_inner p branch pairs (map (map r) paths)) (renamed-starts (branch_at branch pair.0) path (w 0 (omega arith) (omega arith)) (λ f. m 0 f (omega arith)))
      ∙ ap (λ (l : List ℕ). inner_vertices g (branch_at branch pair.0) path ++ l) (renamed-inner branch pairs paths (λ k l i. w (suc k) (omega arith) (omega arith)) (λ k f l. m (suc k) f (omega arith)))

  pub renamed-subdivision : p.vertex_count ≡ g.vertex_count → (kind : Pattern) (branch : List ℕ) (paths : List (List ℕ)) → IsSubdivision g kind branch paths
      → ((k f : ℕ) → k < length paths → is_member f (path_at paths k) ≡ true → t f ≡ true) → IsSubdivision p kind branch (map (map r) paths)
  renamed-subdivision n kind branch paths s m = record {
    branches = s.branches;
    branch_in = λ i l. subst (λ z. branch_at branch i < z) (sym n) (s.branch_in i l);
    one_each = length-map paths (map r) ∙ s.one_each;
    are_paths = λ k l.
        let lp : k < length paths = omega (arith, l, s.one_each) in
        subst (λ (es : List ℕ). IsPath p (branch_at branch (pair_at kind k).0) es (branch_at branch (pair_at kind k).1)) (sym (get_or-map (map r) paths k [] [] lp))
        (renamed-path (branch_at branch (pair_at kind k).0) (branch_at branch (pair_at kind k).1) (path_at paths k) (s.are_paths k l) (λ f. m k f lp));
    apart = subst (λ (l : List ℕ). is_distinct (branch ++ l) ≡ true) (sym (renamed-inner branch (pattern_edges kind) paths (λ k l i. (s.are_paths k l).walk) m)) s.apart;
  }
