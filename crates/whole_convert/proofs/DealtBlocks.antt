-- What a block is given to take, and what it answers.
use Rattle.std.proofs.Common.{◌≡◌, ◌<◌, ℕ, true, List, [], length, flat_map, slice_index_or, arith, IfErr, IsErrAnd, Result, Ok, Err, sym, ap, ◌∙◌, subst}
use Rattle.std.proofs.lemmas.List.{get_or_default}
use Rattle.permutations.specs.Members.{is_member}
use Rattle.multigraph.specs.Part.{GraphPart, IsNumbered}
use Rattle.faces.specs.Euler.{IsPlaneSystem}
use Rattle.arrangements.specs.Arranged.{of_block}
use Rattle.skel_embed.specs.Taken.{IsGiven}
use Rattle.whole_embed.specs.declared.members.Member.{Member}
use Rattle.whole_embed.specs.Component.{Component, IsComponentInPlane}
use Rattle.whole_embed.specs.Around.{outer_at, block_with}
use Rattle.whole_embed.specs.Cuts.{in_plane, member_at, blocks_in, HavePlanes}
use Rattle.whole_embed.specs.Whole.{block_part}
use Rattle.whole_embed.proofs.Advance.{read-member}
use Rattle.whole_embed.proofs.FrameFacts.{plane-part}
use Rattle.whole_convert.specs.Led.{degree_in, total, cut_up, IsDealt, IsLeadRefusal}
use Rattle.whole_convert.specs.declared.faults.WholeFault.{WholeFault}
use Rattle.whole_convert.proofs.PartOf.{IsPartOf}
use Rattle.whole_convert.proofs.Pieces.{pieces-of}

-- what holds of a fault holds of the error that it becomes
pub err-from : {X : Type 0} (r : Result X WholeFault) (fault : WholeFault) (P : WholeFault → Type 0) → IsErrAnd r (λ e. e ≡ fault) → P fault → IfErr r P
err-from (Ok x) fault P e p = tt
err-from (Err f) fault P e p = subst P (sym e) p

-- a block of the component, as it is read from the list of all blocks
pub read-block : (k : Component) (all : List Member) (b : ℕ) (m : Member) → HavePlanes k all → is_member b k.blocks ≡ true → m ≡ slice_index_or all b m → m ≡ member_at all b
read-block k all b m have among e = e ∙ read-member all b m (have.within b among)

-- the edges that are dealt to it, as they are read
pub dealt-edges : (k : Component) (part : GraphPart) (q : List (List ℕ)) (b count : ℕ) (edges own orders borrowed : List ℕ) (dealt : List (List ℕ)) → IsPlaneSystem k.part.graph q → part ≡ k.part → orders ≡ flat_map (outer_at part q) part.vertices → borrowed ≡ orders
    → length dealt ≡ count → ((d : ℕ) → d < count → slice_index_or dealt d [] ≡ of_block (block_with k) d borrowed) → b < count → own ≡ slice_index_or dealt b own → edges ≡ own → IsDealt k q b edges
dealt-edges k part q b count edges own orders borrowed dealt plane ep eo eb each is l ew e = record {
  plane = plane;
  edges_are = e ∙ (ew ∙ (get_or_default dealt b own [] (omega (arith, l, each)) ∙ (is b l ∙ ap (of_block (block_with k) b) (eb ∙ (eo ∙ ap (λ (p : GraphPart). flat_map (outer_at p q) p.vertices) ep)))));
}

-- lists that a block is given: they are a plane rotation system of it
pub record IsReady (part : GraphPart) (entries : List (ℕ × List ℕ)) (r : List (List ℕ)) : Type 0 where
  pub numbered : IsNumbered part
  pub given : IsGiven part entries r
  pub plane : IsPlaneSystem part.graph r

module _ (k : Component) (all : List Member) (q : List (List ℕ)) (b : ℕ) (edges : List ℕ) (m : Member) (is : IsComponentInPlane k (blocks_in all)) (among : is_member b k.blocks ≡ true) (dealt : IsDealt k q b edges) (e : m ≡ member_at all b) where
  same-part : (blocks_in all b).part ≡ m.part
  same-part = plane-part (member_at all b).part (member_at all b).plane ∙ sym (ap (λ (z : Member). z.part) e)

  -- as many edges as it has at all its vertices
  pub dealt-long : length edges ≡ total (degree_in m.part) m.part.vertices
  dealt-long = subst (λ (p : GraphPart). length edges ≡ total (degree_in p) p.vertices) same-part (pieces-of k (blocks_in all) q b edges is among dealt).1

  pub dealt-ready : (entries : List (ℕ × List ℕ)) → entries ≡ cut_up (degree_in m.part) m.part.vertices edges → IsReady m.part entries (block_part k m.part q)
  dealt-ready entries cut = subst (λ (z : List (ℕ × List ℕ)). IsReady m.part z (block_part k m.part q)) (sym cut)
      (subst (λ (p : GraphPart). IsReady p (cut_up (degree_in p) p.vertices edges) (block_part k p q)) same-part
      (let w = pieces-of k (blocks_in all) q b edges is among dealt in
      let own : IsPartOf k (blocks_in all) q b = w.0 in
      record {
        numbered = own.numbered;
        given = subst (λ (z : List (ℕ × List ℕ)). IsGiven (blocks_in all b).part z (block_part k (blocks_in all b).part q)) (sym w.2) own.given;
        plane = own.plane;
      }))

  -- why it refuses them
  pub dealt-refusal : (fault : WholeFault) → IsLeadRefusal b (in_plane m.part m.plane) (block_part k m.part q) fault → IsLeadRefusal b (blocks_in all b) (block_part k (member_at all b).part q) fault
  dealt-refusal fault h = subst (λ (z : Member). IsLeadRefusal b (in_plane z.part z.plane) (block_part k z.part q) fault) e h
