-- The lemmas on plane rotation systems of triconnected graphs.
pub mod TriangleLoop
pub mod ContractedVertices
pub mod SimpleDarts
pub mod Triangle
pub mod ContractedDarts
pub mod ContractedSystem
pub mod ObstructionCounts
pub mod SubdivisionEdges
pub mod SubdivisionPattern
pub mod SubdivisionLists
pub mod SubdivisionWays
pub mod SubdivisionSteps
pub mod SubdivisionFaces
pub mod SubdivisionExcludes
pub mod Alternation
mod SubdivisionExamples
mod ExpansionExamples
mod LiftExamples
mod CircleExamples
pub mod LiftPath
pub mod LiftSystem
pub mod LiftPairs
pub mod LiftBack
pub mod LiftSpokes
pub mod LiftFoot
pub mod LiftSplit
pub mod LiftCases
pub mod RestrictedSteps
pub mod JoinedDarts
pub mod CommonNeighbours
pub mod ContractedUnique
pub mod CircleFaces
pub mod FourVerticesDarts
pub mod FourVerticesTetrahedron
pub mod FourVertices
pub mod ExpandedApart
pub mod JoinedAgain
pub mod ExpandedPlane
pub mod CircleRuns
pub mod CircleArcs
pub mod CircleWalks
pub mod Circle
pub mod TwoSystems
pub mod RunSuccessors
pub mod ExpandedRuns
pub mod FoundRim
pub mod FoundSystem
pub mod Found
pub mod FoundAlternating
pub mod FoundCircle
pub mod FoundTurn
pub mod FoundCommon
pub mod PlaneOrSubdivision
