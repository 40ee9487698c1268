-- Labels of the vertices that are off, and the attachments that are found by them.
use Rattle.std.proofs.Common.{◌≡◌, ◌≢◌, ◌∙◌, ℕ, ◌+◌, ◌<◌, ◌≤◌, inl, inr, Bool, true, false, not, ◌&&◌, List, [], ◌∷◌, ◌++◌, length, map, filter, slice_index, refl, sym, ap, subst, arith}
use Rattle.std.proofs.lemmas.Bool.{cases_lt, both_ways, false≢true}
use Rattle.std.proofs.lemmas.List.{map-append}
use Rattle.std.proofs.Math.Path.{fun_ext}
use Rattle.permutations.specs.Members.{is_member}
use Rattle.permutations.specs.Relation.{connected}
use Rattle.permutations.proofs.Members.{member-head, member-cases, member-append_left, member-append_right, member-append_cases}
use Rattle.multigraph.specs.Graph.{Multigraph, edge_count, ends_of, other_end, numbers_below, IsGraph}
use Rattle.multigraph.specs.Marks.{is_marked}
use Rattle.multigraph.proofs.Below.{filter_below-yes, filter_below-no}
use Rattle.multigraph.proofs.OtherEnd.{other_end-in}
use Rattle.dart_maps.specs.Map.{twin}
use Rattle.dart_maps.proofs.Darts.{twin-below}
use Rattle.graph_theory.specs.Joined.{joined_where}
use Rattle.graph_theory.specs.Labels.{label_at, IsLabelling}
use Rattle.graph_theory.specs.Triconnected.{avoids}
use Rattle.graph_theory.proofs.Labelling.{label-within, labelling-value}
use Rattle.faces.specs.Euler.{tail, dart_count}
use Rattle.faces.proofs.MapSteps.{tail-in}
use Rattle.path_separation.specs.Drawn.{is_on}
use Rattle.path_separation.specs.Feet.{is_free, IsAttached}
use Rattle.path_separation.proofs.DrawnMap.{on-dart}
use Rattle.path_separation.proofs.Feet.{touches-from, touches-edge, touch-attached, head-attached}
use Rattle.path_rotation.specs.Forced.{AreTables}
use Rattle.path_rotation.specs.Settling.{AreAllAttached, AreFreeLabels, IsTouched, is_off_edge}

-- the ends of the first k edges both ends of which are off
abbrev pub off_links : Multigraph → List Bool → ℕ → List (ℕ × ℕ)
off_links g on k = map (ends_of g) (filter (is_off_edge g on) (numbers_below k))

-- one edge more
pub off-more : (g : Multigraph) (on : List Bool) (e : ℕ) → is_off_edge g on e ≡ true → off_links g on e ++ ends_of g e ∷ [] ≡ off_links g on (e + 1)
off-more g on e h = sym (ap (λ (l : List ℕ). map (ends_of g) l) (filter_below-yes (is_off_edge g on) e h) ∙ map-append (ends_of g) (filter (is_off_edge g on) (numbers_below e)) (e ∷ []))

-- or none
pub off-skip : (g : Multigraph) (on : List Bool) (e : ℕ) → is_off_edge g on e ≡ false → off_links g on e ≡ off_links g on (e + 1)
off-skip g on e h = sym (ap (λ (l : List ℕ). map (ends_of g) l) (filter_below-no (is_off_edge g on) e h))

-- nothing is removed
all-avoid : (l : List (ℕ × ℕ)) → filter (avoids []) l ≡ l
all-avoid [] = refl
all-avoid (x ∷ l) = ap (λ (k : List (ℕ × ℕ)). x ∷ k) (all-avoid l)

-- labels of all of them
pub free-labelled : (g : Multigraph) (on : List Bool) (labels : List ℕ) → length labels ≡ g.vertex_count → IsLabelling (off_links g on (edge_count g)) [] (label_at labels) → AreFreeLabels g on labels
free-labelled g on labels size h = record {
  each = size;
  only = λ u v i j e. subst (λ (k : List (ℕ × ℕ)). connected k u v ≡ true) (all-avoid (off_links g on (edge_count g))) (h.only u v (at u i ∙ e ∙ sym (at v j)));
  agree = λ u v i j e. sym (at u i) ∙ labelling-value (off_links g on (edge_count g)) [] (label_at labels) h u v (subst (λ (k : List (ℕ × ℕ)). connected k u v ≡ true) (sym (all-avoid (off_links g on (edge_count g)))) e) ∙ at v j;
}
  where
    at : (x : ℕ) → x < g.vertex_count → label_at labels x ≡ slice_index labels x
    at x i = label-within labels x 0 (omega (arith, i, size))

-- those attachments are found that are below k
pub record AreFoundBelow (g : Multigraph) (drawn : List Bool) (t k : ℕ) (attached : List ℕ) : Type 0 where
  pub each : (z : ℕ) → is_member z attached ≡ true → IsAttached g (is_marked drawn) t z
  pub all : (z : ℕ) → z < k → IsAttached g (is_marked drawn) t z → is_member z attached ≡ true

module _ (g : Multigraph) (ok : IsGraph g) (drawn on : List Bool) (next : List ℕ) (tables : AreTables g drawn on next) (t : ℕ) (l : t < dart_count g) where
  abbrev D : ℕ → Bool
  D = is_marked drawn

  abbrev head_of : ℕ
  head_of = tail g (twin t)

  -- edges both ends of which are off are free
  off-free : (e : ℕ) → is_off_edge g on e ≡ is_free g D e
  off-free e = λ i. not (tables.on_drawn (ends_of g e).0 i) && not (tables.on_drawn (ends_of g e).1 i)

  off-joined : (u v : ℕ) → joined_where g (is_off_edge g on) u v ≡ joined_where g (is_free g D) u v
  off-joined u v = ap (λ (p : ℕ → Bool). joined_where g p u v) (fun_ext off-free)

  head-in : head_of < g.vertex_count
  head-in = tail-in g (twin t) ok (twin-below (edge_count g) t l)

  -- the head alone, where it is on
  pub attached-head : is_marked on head_of ≡ true → (attached : List ℕ) → attached ≡ head_of ∷ [] → AreAllAttached g drawn t attached
  attached-head h attached e = subst (AreAllAttached g drawn t) (sym e) (record {
    each = λ z m. elim (member-cases z head_of [] m) [
      | inl q ↦ subst (λ (y : ℕ). IsAttached g D t y) q (head-attached g ok D t l (sym (tables.on_drawn head_of) ∙ h))
      | inr n ↦ absurd (false≢true n)
    ];
    all = λ z a. elim a.reached [
      | inl w ↦ subst (λ (y : ℕ). is_member y (head_of ∷ []) ≡ true) (sym w.1) (member-head head_of [])
      | inr w ↦ absurd (both_ways (is_on g D head_of) w.0 (sym (tables.on_drawn head_of) ∙ h))
    ];
  })

  module _ (labels : List ℕ) (f : AreFreeLabels g on labels) (off : is_marked on head_of ≡ false) where
    -- who is touched by an edge from a vertex of the head's label is attached
    pub touched-attached : (z : ℕ) → is_marked on z ≡ true → z ≢ tail g t → (e : ℕ) → IsTouched g on labels (slice_index labels head_of) z e → IsAttached g D t z
    touched-attached z h n e w = touch-attached g ok D t z (sym (tables.on_drawn head_of) ∙ off) (sym (tables.on_drawn z) ∙ h) n
        (touches-from g ok D head_of z (
          e,
          w.is_edge,
          w.arrives,
          sym (tables.on_drawn (other_end g e z)) ∙ w.off,
          sym (off-joined head_of (other_end g e z)) ∙ f.only head_of (other_end g e z) head-in (other_end-in g e z ok w.is_edge) (sym w.labelled),
        ))

    -- and an attachment is touched by one
    pub attached-touched : (z : ℕ) → IsAttached g D t z → (is_marked on z ≡ true) × (z ≢ tail g t) × ((e : ℕ) × IsTouched g on labels (slice_index labels head_of) z e)
    attached-touched z a = (
      tables.on_drawn z ∙ a.arrives,
      a.elsewhere,
      elim a.reached [
        | inl w ↦ absurd (both_ways (is_marked on head_of) off (tables.on_drawn head_of ∙ w.0))
        | inr w ↦
            let e = touches-edge g ok D head_of z w.1 in (
              e.0,
              record {
                is_edge = e.1;
                arrives = e.2;
                off = tables.on_drawn (other_end g e.0 z) ∙ e.3;
                labelled = sym (f.agree head_of (other_end g e.0 z) head-in (other_end-in g e.0 z ok e.1) (off-joined head_of (other_end g e.0 z) ∙ e.4));
              },
            )
      ],
    )

  -- one more is attached
  pub found-yes : (k : ℕ) (attached : List ℕ) → AreFoundBelow g drawn t k attached → IsAttached g D t k → AreFoundBelow g drawn t (k + 1) (attached ++ k ∷ [])
  found-yes k attached s a = record {
    each = λ z m. elim (member-append_cases z attached (k ∷ []) m) [
      | inl i ↦ s.each z i
      | inr i ↦ elim (member-cases z k [] i) [ inl q ↦ subst (λ (y : ℕ). IsAttached g D t y) q a | inr n ↦ absurd (false≢true n) ]
    ];
    all = λ z i b. elim (cases_lt z k) [
      | inl c ↦ member-append_left z attached (k ∷ []) (s.all z c b)
      | inr c ↦ let e : z ≡ k = omega arith in subst (λ (y : ℕ). is_member y (attached ++ k ∷ []) ≡ true) (sym e) (member-append_right k attached (k ∷ []) (member-head k []))
    ];
  }

  -- or it is not
  pub found-no : (k : ℕ) (attached : List ℕ) → AreFoundBelow g drawn t k attached → (IsAttached g D t k → ⊥) → AreFoundBelow g drawn t (k + 1) attached
  found-no k attached s n = record {
    each = s.each;
    all = λ z i b. elim (cases_lt z k) [
      | inl c ↦ s.all z c b
      | inr c ↦ let e : z ≡ k = omega arith in absurd (n (subst (λ (y : ℕ). IsAttached g D t y) e b))
    ];
  }

  -- an attachment is a vertex
  pub attached-in : (z : ℕ) → IsAttached g D t z → z < g.vertex_count
  attached-in z a = let d = on-dart g D z a.arrives in subst (λ (y : ℕ). y < g.vertex_count) d.3 (tail-in g d.0 ok d.1)

  -- at the end all are found
  pub found-all : (k : ℕ) (attached : List ℕ) → g.vertex_count ≤ k → AreFoundBelow g drawn t k attached → AreAllAttached g drawn t attached
  found-all k attached h s = record { each = s.each; all = λ z a. s.all z (omega (arith, attached-in z a, h)) a }
