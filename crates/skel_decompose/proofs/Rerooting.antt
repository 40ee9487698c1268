-- An order from another root: the way up from there is turned, and comes first.
use Rattle.std.proofs.Common.{◌≡◌, ◌≢◌, ℕ, ◌<◌, ◌⊎◌, inl, inr, Bool, true, false, ◌||◌, cond, List, [], ◌∷◌, ◌++◌, length, slice_index_or, slice_set, refl, sym, ap, ◌∙◌, subst, arith, append-nil, append_assoc}
use Rattle.std.proofs.lemmas.Bool.{cases_Bool, cases_eq, both_ways, not_from_false}
use Rattle.std.proofs.lemmas.List.{length-append, length-set, get_or_append_left, get_or-set_same, get_or-set_other}
use Rattle.std.proofs.Math.Seq.{get_or-append_seam}
use Rattle.permutations.specs.Members.{is_member, is_distinct}
use Rattle.permutations.proofs.Members.{member-head, member-tail, member-cases, member-append_left, member-append_right, member-append_cases, distinct-head, distinct-tail, distinct-append_apart, no_member-head, no_member-tail, no_member-append, no_member-cons}
use Rattle.permutations.proofs.Arrangements.{member-at}
use Rattle.permutations.proofs.Places.{same-place}
use Rattle.multigraph.specs.Graph.{Multigraph, IsWithinLimits}
use Rattle.multigraph.specs.Marks.{is_marked}
use Rattle.pair_split.specs.Split.{is_beyond, LinksTo, IsTree, AreLinked}
use Rattle.pair_split.specs.Tutte.{Node, components}
use Rattle.pair_split.specs.declared.components.Comp.{Comp}
use Rattle.pair_split.proofs.Rerooted.{rerooted, rerooted-root, rerooted-parent}
use Rattle.pair_split.proofs.TreeSides.{beyond-other, beyond-far, beyond-along, beyond-apart, link-back}
use Rattle.skeletons.specs.Items.{IsBlockTree}
use Rattle.spqr_tree.specs.Absent.{absent}
use Rattle.spqr_tree.specs.Keys.{parent_at, AreOrdered}
use Rattle.skel_decompose.specs.Orders.{IsOrderOf}
use Rattle.skel_decompose.specs.Ways.{AreDown, IsFalling, IsWay, IsClimbed, turned, others_of}
use Rattle.skel_decompose.proofs.Ways.{down-more, member-one, no-member}
use Rattle.skel_decompose.proofs.Hanging.{AreParents, falling, ordered}
use Rattle.skel_decompose.proofs.FirstParents.{from, few}

-- the parents that are turned: their number, those of other nodes, and that of the first
turned-number : (parents : List ℕ) (below : ℕ) (way : List ℕ) → length (turned parents below way) ≡ length parents
turned-number parents below [] = refl
turned-number parents below (x ∷ way) = turned-number (slice_set parents x below) x way ∙ length-set parents x below

turned-other : (parents : List ℕ) (below : ℕ) (way : List ℕ) (y : ℕ) → is_member y way ≡ false → parent_at (turned parents below way) y ≡ parent_at parents y
turned-other parents below [] y n = refl
turned-other parents below (x ∷ way) y n = turned-other (slice_set parents x below) x way y (no_member-tail y x way n) ∙ get_or-set_other parents x y below 0 (λ q. no_member-head y x way n (sym q))

turned-first : (parents : List ℕ) (below x : ℕ) (way : List ℕ) → is_distinct (x ∷ way) ≡ true → x < length parents → parent_at (turned parents below (x ∷ way)) x ≡ below
turned-first parents below x way d l = turned-other (slice_set parents x below) x way x (distinct-head x way d) ∙ get_or-set_same parents x below 0 l

-- each of the list has the one before it as its parent, and the first has this one
abbrev IsChain : List ℕ → ℕ → List ℕ → Type 0
IsChain parents below [] = Unit {0}
IsChain parents below (x ∷ way) = (parent_at parents x ≡ below) × IsChain parents x way

chain-turned : (parents : List ℕ) (below : ℕ) (way : List ℕ) → is_distinct way ≡ true → ((y : ℕ) → is_member y way ≡ true → y < length parents) → IsChain (turned parents below way) below way
chain-turned parents below [] d l = tt
chain-turned parents below (x ∷ way) d l = (
  turned-first parents below x way d (l x (member-head x way)),
  chain-turned (slice_set parents x below) x way (distinct-tail x way d) (λ y m. subst (λ z. y < z) (sym (length-set parents x below)) (l y (member-tail y x way m))),
)

-- so it can be put on a list
down-chain : (parents acc : List ℕ) (below : ℕ) (way : List ℕ) → AreDown parents acc → IsChain parents below way → is_distinct way ≡ true → ((y : ℕ) → is_member y way ≡ true → (y < length parents) × (is_member y acc ≡ false))
    → (below ≡ absent) ⊎ (is_member below acc ≡ true) → AreDown parents (acc ++ way)
down-chain parents acc below [] d c o u e = subst (AreDown parents) (sym (append-nil acc)) d
down-chain parents acc below (x ∷ way) d c o u e =
    subst (AreDown parents) (append_assoc acc (x ∷ []) way)
    (down-chain parents (acc ++ x ∷ []) x way (down-more parents acc x d (u x (member-head x way)).0 (u x (member-head x way)).1 up) c.1 (distinct-tail x way o) rest (inr (member-append_right x acc (x ∷ []) (member-head x []))))
  where
    up : (parent_at parents x ≡ absent) ⊎ (is_member (parent_at parents x) acc ≡ true)
    up = elim e [ inl q ↦ inl (c.0 ∙ q) | inr m ↦ inr (subst (λ z. is_member z acc ≡ true) (sym c.0) m) ]

    rest : (y : ℕ) → is_member y way ≡ true → (y < length parents) × (is_member y (acc ++ x ∷ []) ≡ false)
    rest y m =
        let s = u y (member-tail y x way m) in
        (s.0, no_member-append y acc (x ∷ []) s.1 (no_member-cons y x [] (λ q. both_ways (is_member y way) (subst (λ z. is_member z way ≡ false) q (distinct-head x way o)) m) refl))

-- in a list in which each is after its parent, a parent is before it
down-before : (parents pre rest : List ℕ) (y : ℕ) → AreDown parents (pre ++ y ∷ rest) → (y < length parents) × (is_member y pre ≡ false) × ((parent_at parents y ≡ absent) ⊎ (is_member (parent_at parents y) pre ≡ true))
down-before parents pre rest y d = (
  subst (λ z. z < length parents) seam (d.within (length pre) inside),
  elim (cases_Bool (is_member y pre)) [
    | inl m ↦ absurd (both_ways (is_member y (y ∷ rest)) (distinct-append_apart pre (y ∷ rest) d.distinct y m) (member-head y rest))
    | inr n ↦ n
  ],
  elim (d.after (length pre) inside) [
    | inl q ↦ inl (ap (parent_at parents) (sym seam) ∙ q)
    | inr w ↦ inr (subst (λ z. is_member z pre ≡ true) (sym (get_or_append_left pre (y ∷ rest) 0 w.0 w.1) ∙ w.2 ∙ ap (parent_at parents) seam) (member-at pre w.0 0 w.1))
  ],
)
  where
    inside : length pre < length (pre ++ y ∷ rest)
    inside = omega (arith, length-append pre (y ∷ rest))

    seam : slice_index_or (pre ++ y ∷ rest) (length pre) 0 ≡ y
    seam = get_or-append_seam pre y rest 0

-- those that are not placed are put after the way
module _ (parents new : List ℕ) (placed : List Bool) (way : List ℕ) (number : length new ≡ length parents) (marks : (y : ℕ) → is_marked placed y ≡ is_member y way) (kept : (y : ℕ) → is_member y way ≡ false → parent_at new y ≡ parent_at parents y) where
  abbrev AreOthers : List ℕ → List ℕ → List ℕ → Type 0
  AreOthers pre rest acc = AreDown parents (pre ++ rest) → AreDown new acc → ((y : ℕ) → is_member y way ≡ true → is_member y acc ≡ true) → ((y : ℕ) → is_member y pre ≡ true → is_member y acc ≡ true)
      → ((y : ℕ) → is_member y acc ≡ true → (is_member y way ≡ true) ⊎ (is_member y pre ≡ true)) → AreDown new (acc ++ others_of placed rest)

  pub down-others : (pre rest acc : List ℕ) → AreOthers pre rest acc
  down-others pre [] acc d a s f b = subst (AreDown new) (sym (append-nil acc)) a
  down-others pre (y ∷ rest) acc d a s f b = elim (cases_Bool (is_marked placed y)) [ inl m ↦ skip m (down-others (pre ++ y ∷ []) rest acc) | inr m ↦ push m (down-others (pre ++ y ∷ []) rest (acc ++ y ∷ [])) ]
    where
      again : AreDown parents ((pre ++ y ∷ []) ++ rest)
      again = subst (AreDown parents) (sym (append_assoc pre (y ∷ []) rest)) d

      skip : is_marked placed y ≡ true → AreOthers (pre ++ y ∷ []) rest acc → AreDown new (acc ++ others_of placed (y ∷ rest))
      skip m more = subst (λ (z : List ℕ). AreDown new (acc ++ z)) (sym (ap (λ (t : Bool). cond t (others_of placed rest) (y ∷ others_of placed rest)) m))
          (more again a s
          (λ z i. elim (member-append_cases z pre (y ∷ []) i) [ inl j ↦ f z j | inr j ↦ s z (subst (λ x. is_member x way ≡ true) (member-one y z j) (sym (marks y) ∙ m)) ])
          (λ z i. elim (b z i) [ inl j ↦ inl j | inr j ↦ inr (member-append_left z pre (y ∷ []) j) ]))

      push : is_marked placed y ≡ false → AreOthers (pre ++ y ∷ []) rest (acc ++ y ∷ []) → AreDown new (acc ++ others_of placed (y ∷ rest))
      push m more = subst (λ (z : List ℕ). AreDown new (acc ++ z)) (sym (ap (λ (t : Bool). cond t (others_of placed rest) (y ∷ others_of placed rest)) m))
          (subst (AreDown new) (append_assoc acc (y ∷ []) (others_of placed rest))
          (more again (down-more new acc y a (subst (λ z. y < z) (sym number) w.0) fresh up) (λ z i. member-append_left z acc (y ∷ []) (s z i))
          (λ z i. elim (member-append_cases z pre (y ∷ []) i) [ inl j ↦ member-append_left z acc (y ∷ []) (f z j) | inr j ↦ member-append_right z acc (y ∷ []) j ])
          (λ z i. elim (member-append_cases z acc (y ∷ []) i) [ inl j ↦ elim (b z j) [ inl h ↦ inl h | inr h ↦ inr (member-append_left z pre (y ∷ []) h) ] | inr j ↦ inr (member-append_right z pre (y ∷ []) j) ])))
        where
          w : (y < length parents) × (is_member y pre ≡ false) × ((parent_at parents y ≡ absent) ⊎ (is_member (parent_at parents y) pre ≡ true))
          w = down-before parents pre rest y d

          off : is_member y way ≡ false
          off = sym (marks y) ∙ m

          fresh : is_member y acc ≡ false
          fresh = elim (cases_Bool (is_member y acc)) [
            | inl i ↦ elim (b y i) [ inl j ↦ absurd (both_ways (is_member y way) off j) | inr j ↦ absurd (both_ways (is_member y pre) w.1 j) ]
            | inr i ↦ i
          ]

          up : (parent_at new y ≡ absent) ⊎ (is_member (parent_at new y) acc ≡ true)
          up = elim w.2 [ inl q ↦ inl (kept y off ∙ q) | inr i ↦ inr (subst (λ z. is_member z acc ≡ true) (sym (kept y off)) (f (parent_at parents y) i)) ]

  -- and all of them are
  pub others-held : (rest : List ℕ) (y : ℕ) → is_member y rest ≡ true → is_marked placed y ≡ false → is_member y (others_of placed rest) ≡ true
  others-held [] y m n = no-member y m
  others-held (x ∷ rest) y m n = elim (cases_Bool (is_marked placed x)) [
    | inl t ↦ subst (λ (z : List ℕ). is_member y z ≡ true) (sym (ap (λ (t : Bool). cond t (others_of placed rest) (x ∷ others_of placed rest)) t))
        (elim (member-cases y x rest m) [ inl q ↦ absurd (both_ways (is_marked placed y) n (subst (λ z. is_marked placed z ≡ true) q t)) | inr j ↦ others-held rest y j n ])
    | inr t ↦ subst (λ (z : List ℕ). is_member y z ≡ true) (sym (ap (λ (t : Bool). cond t (others_of placed rest) (x ∷ others_of placed rest)) t))
        (elim (member-cases y x rest m) [ inl q ↦ subst (λ z. is_member z (x ∷ others_of placed rest) ≡ true) q (member-head x (others_of placed rest)) | inr j ↦ member-tail y x (others_of placed rest) (others-held rest y j n) ])
  ]

-- a block with its tree and an order of its nodes, and the way up from a node
module _ (g : Multigraph) (nodes : List Node) (b : IsBlockTree g nodes) (small : IsWithinLimits g) (parents order : List ℕ) (o : IsOrderOf nodes parents order) where
  abbrev comps : List Comp
  comps = components nodes

  abbrev linked : AreLinked comps
  linked = b.tree.split.linked

  abbrev t : IsTree comps
  t = rerooted comps linked o.root o.root_in

  less : length comps < absent
  less = few g nodes b small

  -- the parents are those of the tree
  parent-is : (k : ℕ) → k < length comps → k ≢ o.root → parent_at parents k ≡ t.parent k
  parent-is k l n = elim (cases_eq (parent_at parents k) p) [ inl q ↦ q | inr d ↦ absurd (round (o.ordered.down k p to d)) ]
    where
      apart : k ≢ t.root
      apart q = n (q ∙ rerooted-root comps linked o.root o.root_in)

      p : ℕ
      p = t.parent k

      to : LinksTo comps k p
      to = t.to_parent k l apart

      round : parent_at parents p ≡ k → ⊥
      round q =
          let w = rerooted-parent comps linked o.root o.root_in p k (link-back comps linked k p to) (o.ordered.up p k (link-back comps linked k p to) q) in
          let low : t.rank p < t.rank k = t.rank_falls k l apart in
          let high : t.rank k < t.rank p = subst (λ z. t.rank z < t.rank p) w.1 (t.rank_falls p (t.parent_in k l apart) (λ e. w.0 (e ∙ rerooted-root comps linked o.root o.root_in))) in
          omega (arith, low, high)

  pub are-parents : AreParents comps t parents
  are-parents = record {
    number = o.ordered.places;
    each = λ k l n. parent-is k l (λ q. n (q ∙ sym (rerooted-root comps linked o.root o.root_in)));
    end = ap (parent_at parents) (rerooted-root comps linked o.root o.root_in) ∙ o.end;
  }

  pub falls : IsFalling parents t.rank
  falls = falling comps (from g nodes b small o.root o.root_in) less parents are-parents

  -- a node that is not the root has a link to its parent
  parent-link : (x : ℕ) → x < length comps → parent_at parents x ≢ absent → LinksTo comps x (parent_at parents x)
  parent-link x l n = subst (λ z. LinksTo comps x z) (sym (are-parents.each x l apart)) (t.to_parent x l apart)
    where
      apart : x ≢ t.root
      apart q = n (ap (parent_at parents) q ∙ are-parents.end)

  -- only the root has none
  no-parent : (x : ℕ) → x < length comps → parent_at parents x ≡ absent → x ≡ o.root
  no-parent x l q = elim (cases_eq x o.root) [
    | inl e ↦ e
    | inr n ↦ absurd (far (sym (parent-is x l n) ∙ q) (t.parent_in x l (λ e. n (e ∙ rerooted-root comps linked o.root o.root_in))))
  ]
    where
      far : t.parent x ≡ absent → t.parent x < length comps → ⊥
      far e m = omega (arith, e, m, less)

  -- a node of a way is no number beyond the nodes
  inside : (x p : ℕ) → x < length comps → x ≡ p → p ≢ absent
  inside x p l e q = omega (arith, l, e, q, less)

  -- a way to the end has the root on it
  root-on : (x : ℕ) (way : List ℕ) → ((y : ℕ) → is_member y (x ∷ way) ≡ true → y < length comps) → IsWay parents (parent_at parents x) way absent → is_member o.root (x ∷ way) ≡ true
  root-on x [] l w = subst (λ z. is_member z (x ∷ []) ≡ true) (no-parent x (l x (member-head x [])) (sym w)) (member-head x [])
  root-on x (z ∷ way) l w = member-tail o.root x (z ∷ way) (root-on z way (λ y m. l y (member-tail y x (z ∷ way) m)) w.1)

  -- all of it is on one side of the link of a node that is not on it
  one-side : (y p x : ℕ) (way : List ℕ) → ((z : ℕ) → is_member z (x ∷ way) ≡ true → z < length comps) → is_member y (x ∷ way) ≡ false → IsWay parents (parent_at parents x) way absent → is_beyond comps y p x ≡ is_beyond comps y p o.root
  one-side y p x [] l n w = ap (is_beyond comps y p) (no-parent x (l x (member-head x [])) (sym w))
  one-side y p x (z ∷ way) l n w =
      let up : LinksTo comps x z = subst (λ v. LinksTo comps x v) (sym w.0) (parent-link x (l x (member-head x (z ∷ way))) (inside z (parent_at parents x) (l z (member-tail z x (z ∷ way) (member-head z way))) w.0)) in
      beyond-along comps linked y p x z up (no_member-head y x (z ∷ way) n) (no_member-head y z way (no_member-tail y x (z ∷ way) n))
      ∙ one-side y p z way (λ v m. l v (member-tail v x (z ∷ way) m)) (no_member-tail y x (z ∷ way) n) w.1

  module _ (top : ℕ) (top_in : top < length comps) where
    -- node z is next to node y, towards the top
    abbrev IsTowards : ℕ → ℕ → Type 0
    IsTowards y z = LinksTo comps y z × (is_beyond comps y z top ≡ true)

    -- the node before x on the way is
    abbrev IsFrom : ℕ → Type 0
    IsFrom x = (x ≡ top) ⊎ ((w : ℕ) × IsTowards x w × (w ≢ parent_at parents x))

    -- from the next node x is
    next-towards : (x z : ℕ) → x < length comps → z < length comps → z ≡ parent_at parents x → IsFrom x → IsTowards z x × (x ≢ parent_at parents z)
    next-towards x z l m e f = ((back, beyond), apart)
      where
        to : LinksTo comps x z
        to = subst (λ v. LinksTo comps x v) (sym e) (parent-link x l (inside z (parent_at parents x) m e))

        back : LinksTo comps z x
        back = link-back comps linked x z to

        beyond : is_beyond comps z x top ≡ true
        beyond = elim f [
          | inl q ↦ subst (λ v. is_beyond comps z x v ≡ true) q (beyond-far comps linked z x)
          | inr w ↦ beyond-other comps linked z x top back top_in ∙ not_from_false (is_beyond comps x z top) (beyond-apart comps linked x w.0 z top w.1.0 to (λ q. w.2 (q ∙ e)) w.1.1)
        ]

        apart : x ≢ parent_at parents z
        apart q =
            let one : t.rank (parent_at parents x) < t.rank x = (falls x (subst (λ v. x < v) (sym are-parents.number) l) (inside z (parent_at parents x) m e)).1 in
            let two : t.rank (parent_at parents z) < t.rank z = (falls z (subst (λ v. z < v) (sym are-parents.number) m) (inside x (parent_at parents z) l q)).1 in
            omega (arith, subst (λ v. t.rank v < t.rank x) (sym e) one, subst (λ v. t.rank v < t.rank z) (sym q) two)

    -- the turned parents of the nodes after x are
    way-towards : (x : ℕ) (way now : List ℕ) → length now ≡ length comps → ((y : ℕ) → is_member y (x ∷ way) ≡ true → y < length comps) → is_distinct (x ∷ way) ≡ true → IsWay parents (parent_at parents x) way absent → IsFrom x
        → (y : ℕ) → is_member y way ≡ true → IsTowards y (parent_at (turned now x way) y)
    way-towards x [] now n l d w f y m = no-member y m
    way-towards x (z ∷ way) now n l d w f y m =
        let own = next-towards x z (l x (member-head x (z ∷ way))) (l z (member-tail z x (z ∷ way) (member-head z way))) w.0 f in
        elim (member-cases y z way m) [
          | inl q ↦ subst (λ v. IsTowards v (parent_at (turned now x (z ∷ way)) v)) q
              (subst (IsTowards z) (sym (turned-first now x z way (distinct-tail x (z ∷ way) d) (subst (λ v. z < v) (sym n) (l z (member-tail z x (z ∷ way) (member-head z way)))))) own.0)
          | inr h ↦ way-towards z way (slice_set now z x) (length-set now z x ∙ n) (λ v i. l v (member-tail v x (z ∷ way) i)) (distinct-tail x (z ∷ way) d) w.1 (inr (x, own.0, own.1)) y h
        ]

    -- the way from the top on, with all nodes of it
    module _ (placed : List Bool) (way : List ℕ) (none : (y : ℕ) → is_marked placed y ≡ is_member y (top ∷ way)) (l : (y : ℕ) → is_member y (top ∷ way) ≡ true → y < length comps) (d : is_distinct (top ∷ way) ≡ true) (w : IsWay parents (parent_at parents top) way absent) where
      abbrev new : List ℕ
      new = turned parents absent (top ∷ way)

      abbrev list : List ℕ
      list = (top ∷ way) ++ others_of placed order

      new-number : length new ≡ length parents
      new-number = turned-number parents absent (top ∷ way)

      new-end : parent_at new top ≡ absent
      new-end = turned-first parents absent top way d (subst (λ z. top < z) (sym are-parents.number) top_in)

      new-towards : (y : ℕ) → y < length comps → y ≢ top → IsTowards y (parent_at new y)
      new-towards y m n = elim (cases_Bool (is_member y way)) [
        | inl i ↦ way-towards top way (slice_set parents top absent) (length-set parents top absent ∙ are-parents.number) l d w (inl refl) y i
        | inr i ↦
            let off : is_member y (top ∷ way) ≡ false = no_member-cons y top way (λ q. n (sym q)) i in
            let other : y ≢ o.root = λ q. both_ways (is_member y (top ∷ way)) off (subst (λ z. is_member z (top ∷ way) ≡ true) (sym q) (root-on top way l w)) in
            let apart : parent_at parents y ≢ absent = λ q. other (no-parent y m q) in
            subst (IsTowards y) (sym (turned-other parents absent (top ∷ way) y off))
            (parent-link y m apart, one-side y (parent_at parents y) top way l off w ∙ o.ordered.up y (parent_at parents y) (parent-link y m apart) refl)
      ]

      new-parents : AreParents comps (rerooted comps linked top top_in) new
      new-parents = record {
        number = new-number ∙ are-parents.number;
        each = λ y m n. let s = new-towards y m (λ q. n (q ∙ sym (rerooted-root comps linked top top_in))) in sym (rerooted-parent comps linked top top_in y (parent_at new y) s.0 s.1).1;
        end = ap (parent_at new) (rerooted-root comps linked top top_in) ∙ new-end;
      }

      parents-in : (y : ℕ) → is_member y (top ∷ way) ≡ true → y < length new
      parents-in y m = subst (λ z. y < z) (sym new-parents.number) (l y m)

      old-down : AreDown parents order
      old-down = record {
        within = λ q m. subst (λ z. slice_index_or order q 0 < z) (sym are-parents.number) (o.ordered.within q m);
        distinct = o.distinct;
        after = old-after;
      }
        where
          old-after : (q : ℕ) → q < length order → (parent_at parents (slice_index_or order q 0) ≡ absent) ⊎ ((h : ℕ) × (h < q) × (slice_index_or order h 0 ≡ parent_at parents (slice_index_or order q 0)))
          old-after q m = elim (cases_eq (parent_at parents (slice_index_or order q 0)) absent) [
            | inl e ↦ inl e
            | inr n ↦
                let x = slice_index_or order q 0 in
                let p = parent_at parents x in
                let to : LinksTo comps x p = parent-link x (o.ordered.within q m) n in
                let h = o.ordered.all p (subst (λ z. p < z) are-parents.number (falls x (subst (λ z. x < z) (sym are-parents.number) (o.ordered.within q m)) n).0) in
                let low : t.rank p < t.rank x = (falls x (subst (λ z. x < z) (sym are-parents.number) (o.ordered.within q m)) n).1 in
                let one : parent_at parents (slice_index_or order h.0 0) ≢ x = λ e.
                let l2 : p < length parents = (falls x (subst (λ z. x < z) (sym are-parents.number) (o.ordered.within q m)) n).0 in
                let e2 : parent_at parents p ≡ x = ap (parent_at parents) (sym h.2) ∙ e in
                let high : t.rank (parent_at parents p) < t.rank p = (falls p l2 (inside x (parent_at parents p) (o.ordered.within q m) (sym e2))).1 in
                omega (arith, low, subst (λ z. t.rank z < t.rank p) e2 high) in
                let v = o.ordered.after h.0 x h.1 (subst (λ z. LinksTo comps z x) (sym h.2) (link-back comps linked x p to)) one in
                let same : v.0 ≡ q = same-place order v.0 q o.distinct v.2 m v.3 in
                inr (h.0, omega (arith, same, v.1), h.2)
          ]

      new-down : AreDown new list
      new-down = down-others parents new placed (top ∷ way) new-number none (λ y n. turned-other parents absent (top ∷ way) y n) [] order (top ∷ way) old-down
          (down-chain new [] absent (top ∷ way) (record { within = λ q m. absurd (omega (arith, m)); distinct = refl; after = λ q m. absurd (omega (arith, m)) })
          (chain-turned parents absent (top ∷ way) d (λ y m. subst (λ z. y < z) (sym are-parents.number) (l y m))) d (λ y m. (parents-in y m, refl)) (inl refl))
          (λ y m. m) (λ y m. no-member y m) (λ y m. inl m)

      new-all : (k : ℕ) → k < length comps → is_member k list ≡ true
      new-all k m = elim (cases_Bool (is_member k (top ∷ way))) [
        | inl i ↦ member-append_left k (top ∷ way) (others_of placed order) i
        | inr i ↦
            let q = o.ordered.all k m in
            member-append_right k (top ∷ way) (others_of placed order)
            (others-held parents new placed (top ∷ way) new-number none (λ y n. turned-other parents absent (top ∷ way) y n) order k (subst (λ z. is_member z order ≡ true) q.2 (member-at order q.0 0 q.1)) (none k ∙ i))
      ]

      pub rooted : AreOrdered comps top new list × (is_distinct list ≡ true)
      rooted = (
        subst (λ z. AreOrdered comps z new list) (rerooted-root comps linked top top_in) (ordered comps (from g nodes b small top top_in) less new new-parents list new-down new-all),
        new-down.distinct,
      )

    -- the same of the climb from the top, where nothing was placed
    pub rooted-climbed : (old placed : List Bool) (way : List ℕ) → ((y : ℕ) → is_marked old y ≡ false) → IsClimbed parents top old placed way → AreOrdered comps top (turned parents absent way) (way ++ others_of placed order) × (is_distinct (way ++ others_of placed order) ≡ true)
    rooted-climbed old placed way n c = by-way way c.climbing.way c.climbing.distinct (λ y m. subst (λ z. y < z) are-parents.number (c.climbing.within y m)) (λ y. c.climbing.placed y ∙ ap (λ z. z || is_member y way) (n y))
      where
        next : c.next ≡ absent
        next = elim c.ends [ inl q ↦ q | inr m ↦ absurd (both_ways (is_marked old c.next) (n c.next) m) ]

        by-way : (way : List ℕ) → IsWay parents top way c.next → is_distinct way ≡ true → ((y : ℕ) → is_member y way ≡ true → y < length comps) → ((y : ℕ) → is_marked placed y ≡ is_member y way)
            → AreOrdered comps top (turned parents absent way) (way ++ others_of placed order) × (is_distinct (way ++ others_of placed order) ≡ true)
        by-way [] w d l m = absurd (inside top c.next top_in (sym w) next)
        by-way (x ∷ way) w d l m = subst (λ z. is_distinct (z ∷ way) ≡ true → ((y : ℕ) → is_member y (z ∷ way) ≡ true → y < length comps) → ((y : ℕ) → is_marked placed y ≡ is_member y (z ∷ way)) → IsWay parents (parent_at parents z) way absent
            → AreOrdered comps top (turned parents absent (z ∷ way)) ((z ∷ way) ++ others_of placed order) × (is_distinct ((z ∷ way) ++ others_of placed order) ≡ true)) (sym w.0)
            (λ d l m w. rooted placed way m l d w) d l m (subst (λ z. IsWay parents (parent_at parents x) way z) next w.1)
