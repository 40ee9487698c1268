-- A component put into a group of its kind, over a link to it.
use Rattle.std.proofs.Common.{◌≡◌, ◌≢◌, ℕ, ◌+◌, ◌<◌, ◌≤◌, ◌⊎◌, ◌==◌, ◌&&◌, inl, inr, Bool, true, false, not, cond, List, length, map, filter, slice_index_or, refl, sym, ap, ap₂, ◌∙◌, subst, arith, All}
use Rattle.std.proofs.lemmas.Bool.{cases_Bool, cases_eq, and_parts, and_from, both_ways, eq-eqb, eqb-true, ne_eqb, false_from_ne_true, true≢false, not-true}
use Rattle.std.proofs.lemmas.List.{get_or_default, get_or-map, length-map}
use Rattle.multigraph.specs.Graph.{Multigraph}
use Rattle.pair_split.specs.Skeleton.{is_end_of, SameEnds, is_vertex, IsSkeleton}
use Rattle.pair_split.specs.Split.{component_at, items_of, item_at, piece_ends, skeleton, StandsFor, is_beyond, LinksTo, IsSplit}
use Rattle.pair_split.specs.declared.components.Kind.{Kind}
use Rattle.pair_split.specs.declared.components.Kind.TheVariants.{S, P}
use Rattle.pair_split.specs.declared.components.What.{What}
use Rattle.pair_split.specs.declared.components.What.TheVariants.{Real, Link}
use Rattle.pair_split.specs.declared.components.Piece.{Piece}
use Rattle.pair_split.specs.declared.components.Comp.{Comp}
use Rattle.pair_split.proofs.Links.{no_piece}
use Rattle.spqr_tree.specs.Merged.{how_many, is_outer, IsGroup}
use Rattle.spqr_tree.proofs.MergeCounts.{number-from, number-some, number-map, number-ext, number-within, number-only, number-parts, number-once, sum-changed, share, gathered-once, gathered-some, Gathered}
use Rattle.pair_split.proofs.TreeSides.{link-differs, link-from, beyond-far}
use Rattle.pair_split.proofs.LinkSides.{beyond-respects}
use Rattle.spqr_tree.proofs.MergeTouch.{ends-same, touches, side-opposite}
use Rattle.spqr_tree.proofs.JoinedBonds.{same_ends, same_ends-from, same_ends-true, same-trans, AreJoined, joined-all, bonds-joined}
use Rattle.spqr_tree.proofs.JoinedPolygons.{vertex-degree, polygons-joined}
use Rattle.spqr_tree.proofs.JoinedMerging.{is_link, is_link-true, link-is, inner-link, link-inner, single-link}

-- whether two pieces stand for the same and have the same ends
abbrev pub is_this : What → What → Bool
is_this (Real e) (Real f) = e == f
is_this (Real e) (Link j) = false
is_this (Link i) (Real f) = false
is_this (Link i) (Link j) = i == j

pub is_this-true : (w v : What) → is_this w v ≡ true → v ≡ w
is_this-true (Real e) (Real f) h = ap Real (sym (eqb-true e f h))
is_this-true (Real e) (Link j) h = absurd (true≢false (sym h))
is_this-true (Link i) (Real f) h = absurd (true≢false (sym h))
is_this-true (Link i) (Link j) h = ap Link (sym (eqb-true i j h))

pub this-own : (w : What) → is_this w w ≡ true
this-own (Real e) = eq-eqb e e refl
this-own (Link j) = eq-eqb j j refl

abbrev pub is_like : Piece → Piece → Bool
is_like p q = is_this p.what q.what && same_ends (piece_ends p) (piece_ends q)

pub like-own : (p : Piece) → is_like p p ≡ true
like-own p = and_from (is_this p.what p.what) (same_ends (piece_ends p) (piece_ends p)) (this-own p.what) (same_ends-from (piece_ends p) (piece_ends p) (inl (refl, refl)))

pub like-parts : (p q : Piece) → is_like p q ≡ true → (q.what ≡ p.what) × SameEnds (piece_ends p) (piece_ends q)
like-parts p q h = let w = and_parts (is_this p.what q.what) (same_ends (piece_ends p) (piece_ends q)) h in (is_this-true p.what q.what w.0, same_ends-true (piece_ends p) (piece_ends q) w.1)

-- an end of an item
pub vertex-item : (pieces : List Piece) (v : ℕ) → is_vertex (map piece_ends pieces) v ≡ true → (i : ℕ) × (i < length pieces) × (is_end_of v (piece_ends (slice_index_or pieces i no_piece)) ≡ true)
vertex-item pieces v h = number-some no_piece (λ p. is_end_of v (piece_ends p)) pieces (subst (λ z. 1 ≤ z) (number-map piece_ends (is_end_of v) pieces) (vertex-degree (map piece_ends pieces) v h))

module _ (g : Multigraph) (comps : List Comp) (split : IsSplit g comps) (lead : ℕ → ℕ) (k : ℕ) (kind : Kind) (pieces : List Piece) (group : IsGroup comps lead k kind pieces) where
  -- a piece of the group is that of a component
  pub piece-home : (i : ℕ) → i < length pieces → Gathered comps lead k (is_like (slice_index_or pieces i no_piece))
  piece-home i l = gathered-some comps lead k (is_like (slice_index_or pieces i no_piece))
      (subst (λ z. 1 ≤ z) (group.gathers (is_like (slice_index_or pieces i no_piece))) (number-from no_piece (is_like (slice_index_or pieces i no_piece)) pieces i l (like-own (slice_index_or pieces i no_piece))))

  module _ (d i : ℕ) (l : i < length pieces) (to-d : (slice_index_or pieces i no_piece).what ≡ Link d) (out : lead d ≢ k) where
    -- the component from which the link leads
    from-d : Gathered comps lead k (is_like (slice_index_or pieces i no_piece))
    from-d = piece-home i l

    abbrev y : ℕ
    y = from-d.home

    link : StandsFor comps y from-d.place (Link d)
    link = (from-d.place_in, (like-parts (slice_index_or pieces i no_piece) (item_at comps y from-d.place) from-d.passes).0 ∙ to-d)

    y-led : lead y ≡ k
    y-led = from-d.led

    -- the link back
    back : (h : ℕ) × StandsFor comps d h (Link y) × SameEnds (piece_ends (item_at comps y from-d.place)) (piece_ends (item_at comps d h))
    back = split.linked.back y d from-d.place link

    from-back : LinksTo comps d y
    from-back = (back.0, back.1)

    d-in : d < length comps
    d-in = link-from comps split.linked d y from-back

    same : SameEnds (piece_ends (slice_index_or pieces i no_piece)) (piece_ends (item_at comps d back.0))
    same = same-trans (piece_ends (slice_index_or pieces i no_piece)) (piece_ends (item_at comps y from-d.place)) (piece_ends (item_at comps d back.0))
        (like-parts (slice_index_or pieces i no_piece) (item_at comps y from-d.place) from-d.passes).1 back.2

    -- one piece alone of the group is a link to d
    one-to_d : how_many (λ p. is_link d p.what) pieces ≤ 1
    one-to_d = subst (λ z. z ≤ 1) (sym (group.gathers (λ p. is_link d p.what))) (gathered-once comps lead k (λ p. is_link d p.what) (λ u m v n lu lv gu gv mu nv ou ov hu hv.
        let su : StandsFor comps u m (Link d) = (mu, is_link-true d (item_at comps u m).what hu) in
        let sv : StandsFor comps v n (Link d) = (nv, is_link-true d (item_at comps v n).what hv) in
        let e = single-link comps split.linked lead k group.joined u v d gu gv out (m, su) (n, sv) in
        (e, split.linked.once u d m n su (subst (λ z. StandsFor comps z n (Link d)) (sym e) sv))))

    -- one piece alone of d is a link into the group
    one-from_d : how_many (λ p. not (is_outer lead k p.what)) (items_of comps d) ≤ 1
    one-from_d = number-once no_piece (λ p. not (is_outer lead k p.what)) (items_of comps d) (λ m n lm ln hm hn.
        let u = inner-link lead k (item_at comps d m).what (not-true (is_outer lead k (item_at comps d m).what) hm) in
        let v = inner-link lead k (item_at comps d n).what (not-true (is_outer lead k (item_at comps d n).what) hn) in
        let e = single-link comps split.linked lead k group.joined u.0 v.0 d u.2 v.2 out (to-back u.0 m (lm, u.1)) (to-back v.0 n (ln, v.1)) in
        split.linked.once d u.0 m n (lm, u.1) (ln, v.1 ∙ ap Link (sym e)))
      where
        to-back : (x m : ℕ) → StandsFor comps d m (Link x) → LinksTo comps x d
        to-back x m s = let r = split.linked.back d x m s in (r.0, r.1)

    module _ (grown : List Piece) (counts : (t : Piece → Bool) → how_many t grown + cond (t (slice_index_or pieces i no_piece)) 1 0 ≡ how_many t pieces + how_many (λ q. is_outer lead k q.what && t q) (items_of comps d)) where
      -- the skeleton of the new group is that of the old one and that of d, joined
      joined : AreJoined (map piece_ends pieces) (skeleton comps d) (piece_ends (slice_index_or pieces i no_piece)) (piece_ends (item_at comps d back.0)) (map piece_ends grown)
      joined = record {
        first = (i, subst (λ z. i < z) (sym (length-map pieces piece_ends)) l, get_or-map piece_ends pieces i no_piece (0, 0) l);
        second = (back.0, subst (λ z. back.0 < z) (sym (length-map (items_of comps d) piece_ends)) back.1.0, get_or-map piece_ends (items_of comps d) back.0 no_piece (0, 0) back.1.0);
        same = same;
        counts = λ t. sums t;
      }
        where
          of-d : (t : Piece → Bool) → how_many t (items_of comps d) ≡ how_many (λ q. is_outer lead k q.what && t q) (items_of comps d) + cond (t (item_at comps d back.0)) 1 0
          of-d t = number-parts (λ q. not (is_outer lead k q.what)) t (items_of comps d)
              ∙ ap₂ (λ a b. a + b)
              (number-ext (λ q. not (not (is_outer lead k q.what)) && t q) (λ q. is_outer lead k q.what && t q) (items_of comps d) (λ q. ap (λ b. b && t q) (twice (is_outer lead k q.what))))
              (number-only no_piece (λ q. not (is_outer lead k q.what)) t (items_of comps d) back.0 back.1.0 (ap not (link-inner lead k y (item_at comps d back.0).what back.1.1 y-led)) one-from_d)
            where
              twice : (b : Bool) → not (not b) ≡ b
              twice true = refl
              twice false = refl

          sums : (t : ℕ × ℕ → Bool) → length (filter t (map piece_ends grown)) + (cond (t (piece_ends (slice_index_or pieces i no_piece))) 1 0 + cond (t (piece_ends (item_at comps d back.0))) 1 0)
              ≡ length (filter t (map piece_ends pieces)) + length (filter t (skeleton comps d))
          sums t = omega (arith, number-map piece_ends t grown, number-map piece_ends t pieces, number-map piece_ends t (items_of comps d), counts (λ q. t (piece_ends q)), of-d (λ q. t (piece_ends q)))

      -- a vertex of both is an end of the link
      apart : (v : ℕ) → is_vertex (map piece_ends pieces) v ≡ true → is_vertex (skeleton comps d) v ≡ true → is_end_of v (piece_ends (slice_index_or pieces i no_piece)) ≡ true
      apart v h f =
          let a = vertex-item pieces v h in
          let x = piece-home a.0 a.1 in
          let b = vertex-item (items_of comps d) v f in
          let here : is_end_of v (piece_ends (item_at comps x.home x.place)) ≡ true = sym (ends-same (piece_ends (slice_index_or pieces a.0 no_piece)) (piece_ends (item_at comps x.home x.place)) v (like-parts (slice_index_or pieces a.0 no_piece) (item_at comps x.home x.place) x.passes).1) ∙ a.2 in
          let near = touches g comps split d y x.home x.place v from-back (beyond x.home x.home_in x.led) x.place_in here in
          let far = touches g comps split y d d b.0 v (from-d.place, link) (beyond-far comps split.linked y d) b.1 b.2 in
          ends-same (piece_ends (slice_index_or pieces i no_piece)) (piece_ends (item_at comps d back.0)) v same ∙ (split.sides_meet d y back.0 back.1 v).0 (record {
            inside = near.edge;
            outside = far.edge;
            inside_edge = near.below;
            outside_edge = far.below;
            inside_end = near.end;
            outside_end = far.end;
            inside_side = near.beyond;
            outside_side = side-opposite g comps split d y far.edge from-back far.below ∙ ap not far.beyond;
          })
        where
          -- all of the group is on one side of the link
          beyond : (x : ℕ) → x < length comps → lead x ≡ k → is_beyond comps d y x ≡ true
          beyond x m h = sym (group.joined (is_beyond comps d y) (λ a b s f n. beyond-respects comps split.linked d y a b s ((λ z w. out (ap lead (sym z) ∙ f)), (λ z w. out (ap lead (sym w) ∙ n))))
              y x from-d.home_in m y-led h) ∙ beyond-far comps split.linked d y

      -- the new group is of the same kind
      grown-kind : (kind ≡ S) ⊎ (kind ≡ P) → (component_at comps d).kind ≡ kind → IsSkeleton kind (map piece_ends grown)
      grown-kind alike f = elim alike [
        | inl e ↦ let o = old S e in let n = new S (f ∙ e) in
            subst (λ z. IsSkeleton z (map piece_ends grown)) (sym e) (record {
              of_kind = polygons-joined (map piece_ends pieces) (skeleton comps d) (piece_ends (slice_index_or pieces i no_piece)) (piece_ends (item_at comps d back.0)) (map piece_ends grown) joined o.of_kind n.of_kind o.no_loops n.no_loops apart;
              no_loops = loopless o.no_loops n.no_loops;
            })
        | inr e ↦ let o = old P e in let n = new P (f ∙ e) in
            subst (λ z. IsSkeleton z (map piece_ends grown)) (sym e) (record {
              of_kind = bonds-joined (map piece_ends pieces) (skeleton comps d) (piece_ends (slice_index_or pieces i no_piece)) (piece_ends (item_at comps d back.0)) (map piece_ends grown) joined o.of_kind n.of_kind;
              no_loops = loopless o.no_loops n.no_loops;
            })
      ]
        where
          old : (z : Kind) → kind ≡ z → IsSkeleton z (map piece_ends pieces)
          old z e = subst (λ w. IsSkeleton w (map piece_ends pieces)) e group.of_kind

          new : (z : Kind) → (component_at comps d).kind ≡ z → IsSkeleton z (skeleton comps d)
          new z e = subst (λ w. IsSkeleton w (skeleton comps d)) e (split.of_kind.kinds d d-in)

          no_loop : ℕ × ℕ → Bool
          no_loop ends = not (ends.0 == ends.1)

          loopless : All (λ (ends : ℕ × ℕ). ends.0 ≢ ends.1) (map piece_ends pieces) → All (λ (ends : ℕ × ℕ). ends.0 ≢ ends.1) (skeleton comps d) → All (λ (ends : ℕ × ℕ). ends.0 ≢ ends.1) (map piece_ends grown)
          loopless a b m o lm e = both_ways (no_loop (slice_index_or (map piece_ends grown) m o)) (ap not (eq-eqb (slice_index_or (map piece_ends grown) m o).0 (slice_index_or (map piece_ends grown) m o).1 e))
              (ap no_loop (sym (get_or_default (map piece_ends grown) m (0, 0) o lm))
              ∙ joined-all (map piece_ends pieces) (skeleton comps d) (piece_ends (slice_index_or pieces i no_piece)) (piece_ends (item_at comps d back.0)) (map piece_ends grown) joined no_loop
              (λ n ln. ap not (ne_eqb (slice_index_or (map piece_ends pieces) n (0, 0)).0 (slice_index_or (map piece_ends pieces) n (0, 0)).1 (a n (0, 0) ln)))
              (λ n ln. ap not (ne_eqb (slice_index_or (skeleton comps d) n (0, 0)).0 (slice_index_or (skeleton comps d) n (0, 0)).1 (b n (0, 0) ln))) m lm)

    -- with d the group is one still
    pub group-grows : (other : ℕ → ℕ) (grown : List Piece) → (kind ≡ S) ⊎ (kind ≡ P) → (component_at comps d).kind ≡ kind → other d ≡ k → ((x : ℕ) → x ≢ d → other x ≡ lead x)
        → ((t : Piece → Bool) → how_many t grown + cond (t (slice_index_or pieces i no_piece)) 1 0 ≡ how_many t pieces + how_many (λ q. is_outer lead k q.what && t q) (items_of comps d))
        → IsGroup comps other k kind grown
    group-grows other grown alike e into kept counts = record {
      member = (group.member.0, group.member.1, to group.member.0 group.member.2);
      kinds = λ x m h. elim (cases_eq x d) [ inl z ↦ ap (λ w. (component_at comps w).kind) z ∙ e | inr n ↦ group.kinds x m (sym (kept x n) ∙ h) ];
      joined = λ t r u v m n h f. value t r u m h ∙ sym (value t r v n f);
      gathers = λ t. omega (
        arith,
        counts t,
        number-parts (λ p. is_link d p.what) t pieces,
        number-only no_piece (λ p. is_link d p.what) t pieces i l (link-is d (slice_index_or pieces i no_piece).what to-d) one-to_d,
        group.gathers (rest t),
        sum-changed (length comps) (share comps lead k (rest t)) (share comps other k t) d d-in (λ x m n. elsewhere t x n),
        none t,
        at-d t,
      );
      of_kind = grown-kind grown counts alike e;
    }
      where
        to : (x : ℕ) → lead x ≡ k → other x ≡ k
        to x h = kept x (λ z. out (ap lead (sym z) ∙ h)) ∙ h

        value : (t : ℕ → Bool) → ((u v : ℕ) → LinksTo comps u v → other u ≡ k → other v ≡ k → t u ≡ t v) → (u : ℕ) → u < length comps → other u ≡ k → t u ≡ t y
        value t r u m h = elim (cases_eq u d) [
          | inl z ↦ ap t z ∙ r d y from-back into (to y y-led)
          | inr n ↦ group.joined t (λ a b s p q. r a b s (to a p) (to b q)) u y m from-d.home_in (sym (kept u n) ∙ h) y-led
        ]

        -- but the link to d
        rest : (Piece → Bool) → Piece → Bool
        rest t p = not (is_link d p.what) && t p

        none : (t : Piece → Bool) → share comps lead k (rest t) d ≡ 0
        none t = ap (λ (b : Bool). cond b (how_many (λ p. is_outer lead k p.what && rest t p) (items_of comps d)) 0) (ne_eqb (lead d) k out)

        outer-changed : (what : What) → is_outer other k what ≡ (is_outer lead k what && not (is_link d what))
        outer-changed (Real f) = refl
        outer-changed (Link j) = elim (cases_eq j d) [
          | inl z ↦ let p : (other j == k) ≡ true = eq-eqb (other j) k (ap other z ∙ into) in rw (p, eq-eqb j d z) (last (lead j == k))
          | inr n ↦ rw (kept j n, ne_eqb j d n) (first (lead j == k))
        ]
          where
            last : (b : Bool) → false ≡ (not b && false)
            last b = grind (arith, cases_Bool b)

            first : (b : Bool) → not b ≡ (not b && true)
            first b = grind (arith, cases_Bool b)

        elsewhere : (t : Piece → Bool) (x : ℕ) → x ≢ d → share comps other k t x ≡ share comps lead k (rest t) x
        elsewhere t x n = ap (λ z. cond (z == k) (how_many (λ p. is_outer other k p.what && t p) (items_of comps x)) 0) (kept x n)
            ∙ ap (λ z. cond (lead x == k) z 0) (number-ext (λ p. is_outer other k p.what && t p) (λ p. is_outer lead k p.what && rest t p) (items_of comps x)
            (λ p. ap (λ b. b && t p) (outer-changed p.what) ∙ shift (is_outer lead k p.what) (not (is_link d p.what)) (t p)))
          where
            shift : (a b c : Bool) → ((a && b) && c) ≡ (a && (b && c))
            shift a b c = grind (arith, cases_Bool a, cases_Bool b)

        at-d : (t : Piece → Bool) → share comps other k t d ≡ how_many (λ q. is_outer lead k q.what && t q) (items_of comps d)
        at-d t = ap (λ (b : Bool). cond b (how_many (λ p. is_outer other k p.what && t p) (items_of comps d)) 0) (eq-eqb (other d) k into)
            ∙ number-within no_piece (λ p. is_outer other k p.what && t p) (λ p. is_outer lead k p.what && t p) (items_of comps d) (λ m lm. ap (λ b. b && t (item_at comps d m)) (same-at m lm))
          where
            unit : (b : Bool) → (b && true) ≡ b
            unit b = grind (arith, cases_Bool b)

            same-at : (m : ℕ) → m < length (items_of comps d) → is_outer other k (item_at comps d m).what ≡ is_outer lead k (item_at comps d m).what
            same-at m lm = outer-changed (item_at comps d m).what ∙ ap (λ b. is_outer lead k (item_at comps d m).what && not b) (false_from_ne_true (is_link d (item_at comps d m).what)
                (λ z. link-differs comps split.linked d d (m, (lm, is_link-true d (item_at comps d m).what z)) refl)) ∙ unit (is_outer lead k (item_at comps d m).what)
