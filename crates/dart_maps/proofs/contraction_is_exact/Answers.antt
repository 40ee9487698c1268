use Rattle.dart_maps.proofs.Contract.{contract-defect, contract-plane, contract-plane-back}
use Rattle.dart_maps.proofs.ContractComponents.{contracted-component}
use Rattle.dart_maps.proofs.contraction_is_exact.Goals as goal

pub returns : goal.returns
returns c = record { defect = contract-defect; plane = λ m f g b d l v. (contract-plane m f g b d l v, contract-plane-back m f g b d l v); components = contracted-component }
