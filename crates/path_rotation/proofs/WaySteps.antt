-- The way back from an attachment, reversed, is a path off what is drawn.
use Rattle.std.proofs.Common.{◌≡◌, ◌≢◌, ◌∙◌, ℕ, ◌<◌, ◌/◌, ◌⊎◌, inl, inr, Bool, true, false, List, [], ◌∷◌, ◌++◌, reverse, slice_index, sym, ap, subst, arith}
use Rattle.std.proofs.lemmas.Bool.{false≢true, both_ways, false_from_ne_true}
use Rattle.std.proofs.lemmas.List.{reverse-append}
use Rattle.permutations.specs.Members.{is_member}
use Rattle.permutations.proofs.Members.{member-cases}
use Rattle.multigraph.specs.Graph.{Multigraph, is_end, other_end, IsGraph}
use Rattle.multigraph.specs.Marks.{is_marked}
use Rattle.multigraph.proofs.OtherEnd.{other_end-is_end, other_end-twice}
use Rattle.multigraph.proofs.DartEnds.{dart-edge, tail-end}
use Rattle.faces.specs.Euler.{tail, dart_count}
use Rattle.graph_theory.specs.Path.{walk_vertices, IsPath}
use Rattle.graph_theory.proofs.Paths.{path-none, path-cons}
use Rattle.path_rotation.specs.Search.{LeadsNearer, IsWayBack, IsWayFound}

module _ (g : Multigraph) (ok : IsGraph g) (on : List Bool) (depth : List ℕ) (z : ℕ) where
  -- at z
  pub way-begin : (path : List ℕ) → path ≡ [] → z < g.vertex_count → IsWayBack g on depth z z path
  way-begin path e l = subst (λ (p : List ℕ). IsWayBack g on depth z z p) (sym e) (record {
    vertex = l;
    way = path-none g z;
    off = λ v m. elim (member-cases v z [] m) [
      | inl i ↦ inl (sym i)
      | inr n ↦ absurd (false≢true n)
    ];
    deep = λ v m. elim (member-cases v z [] m) [
      | inl i ↦ omega (arith, ap (slice_index depth) i)
      | inr n ↦ absurd (false≢true n)
    ];
  })

  -- an edge before a path
  turned : (path : List ℕ) (e : ℕ) → reverse (path ++ e ∷ []) ≡ e ∷ reverse path
  turned path e = reverse-append path (e ∷ [])

  -- a step to a vertex that is off and nearer
  pub way-next : (at to edge : ℕ) (path : List ℕ) → IsWayBack g on depth z at path → LeadsNearer g on depth at edge to → IsWayBack g on depth z to (path ++ edge ∷ [])
  way-next at to edge path w s = record {
    vertex = s.within;
    way = subst (λ (p : List ℕ). IsPath g to p z) (sym (turned path edge)) (path-cons g to edge (reverse path) z s.is_edge end (subst (λ (v : ℕ). IsPath g v (reverse path) z) (sym back) w.way) fresh);
    off = λ v m. elim (cases v m) [
      | inl i ↦ inr (subst (λ (x : ℕ). is_marked on x ≡ false) i s.off)
      | inr i ↦ w.off v i
    ];
    deep = λ v m. elim (cases v m) [
      | inl i ↦ omega (arith, ap (slice_index depth) i)
      | inr i ↦ omega (arith, w.deep v i, s.nearer)
    ];
  }
    where
      end : is_end g to edge ≡ true
      end = subst (λ (v : ℕ). is_end g v edge ≡ true) s.other (other_end-is_end g edge at)

      back : other_end g edge to ≡ at
      back = ap (other_end g edge) (sym s.other) ∙ other_end-twice g edge at ok s.is_edge s.from

      fresh : is_member to (walk_vertices g (other_end g edge to) (reverse path)) ≡ false
      fresh = false_from_ne_true (is_member to (walk_vertices g (other_end g edge to) (reverse path)))
          (λ m. absurd (omega (arith, s.nearer, w.deep to (subst (λ (v : ℕ). is_member to (walk_vertices g v (reverse path)) ≡ true) back m))))

      cases : (v : ℕ) → is_member v (walk_vertices g to (reverse (path ++ edge ∷ []))) ≡ true → (to ≡ v) ⊎ (is_member v (walk_vertices g at (reverse path)) ≡ true)
      cases v m = elim (member-cases v to (walk_vertices g (other_end g edge to) (reverse path)) (subst (λ (p : List ℕ). is_member v (walk_vertices g to p) ≡ true) (turned path edge) m)) [
        | inl i ↦ inl i
        | inr i ↦ inr (subst (λ (x : ℕ). is_member v (walk_vertices g x (reverse path)) ≡ true) back i)
      ]

  -- at the head of t
  pub way-found : (t at : ℕ) (path : List ℕ) → t < dart_count g → is_marked on (tail g t) ≡ true → is_marked on z ≡ true → z ≢ tail g t → at ≡ other_end g (t / 2) (tail g t) → IsWayBack g on depth z at path
      → IsWayFound g on t (reverse (path ++ (t / 2) ∷ [])) z
  way-found t at path l here there apart first w = record {
    along = reverse path;
    whole = turned path (t / 2);
    leads = record {
      path = path-cons g (tail g t) (t / 2) (reverse path) z (dart-edge g t l) (tail-end g t) (subst (λ (v : ℕ). IsPath g v (reverse path) z) first w.way) fresh;
      arrives = there;
      inner = λ v m h. elim (member-cases v (tail g t) (walk_vertices g (other_end g (t / 2) (tail g t)) (reverse path)) m) [
        | inl i ↦ inl (sym i)
        | inr i ↦ elim (w.off v (subst (λ (x : ℕ). is_member v (walk_vertices g x (reverse path)) ≡ true) (sym first) i)) [
          | inl j ↦ inr j
          | inr n ↦ absurd (both_ways (is_marked on v) n h)
        ]
      ];
    };
  }
    where
      fresh : is_member (tail g t) (walk_vertices g (other_end g (t / 2) (tail g t)) (reverse path)) ≡ false
      fresh = false_from_ne_true (is_member (tail g t) (walk_vertices g (other_end g (t / 2) (tail g t)) (reverse path)))
          (λ m. elim (w.off (tail g t) (subst (λ (x : ℕ). is_member (tail g t) (walk_vertices g x (reverse path)) ≡ true) (sym first) m)) [
            | inl j ↦ apart (sym j)
            | inr n ↦ both_ways (is_marked on (tail g t)) n here
          ])
