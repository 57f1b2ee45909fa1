-- The proofs of the promises, each under its field.
use Rattle.model.specs.Statements.Promised.{Promised}
use Rattle.model.proofs.Laws.CallsSound as kept
use Rattle.model.proofs.Laws.MarkedHold as examples
use Rattle.model.proofs.Laws.Demand1Proofs as demand1
use Rattle.model.proofs.Laws.Gates as gates
use Rattle.model.proofs.Laws.PinnedProof as pins
use Rattle.model.proofs.Laws.CutShares as shares
use Rattle.model.proofs.Laws.BondShares as bonds
use Rattle.model.proofs.Laws.JacobiLaws as jacobi
use Rattle.model.proofs.Laws.OrderLaws as order
use Rattle.model.proofs.Laws.SvdLaws as svd
use Rattle.model.proofs.Laws.QrLaws as qr
use Rattle.model.proofs.Laws.CutLaws as cuts
use Rattle.model.proofs.Laws.MoveLaws as moves
use Rattle.model.proofs.Laws.RootsOfSquares as roots
use Rattle.model.proofs.Laws.Demand3Proof as machine
use Rattle.model.proofs.Laws.Demand3Product as products
use Rattle.model.proofs.Laws.ZeroSigns as signs
use Rattle.model.proofs.Laws.NeverSix as uncapped
use Rattle.model.proofs.Laws.AsAt63 as exponents
use Rattle.model.proofs.Laws.Reasons as reasons
use Rattle.model.proofs.Laws.LayerCalls as layers
use Rattle.model.proofs.Laws.LayerMachine as pairs

pub promised : Promised
promised = record {
  numbered = demand1.numbered;
  remains = demand1.remains;
  stops = gates.stops;
  clamped = demand1.clamped;
  pinned = pins.pinned;
  call_orderly = kept.call_orderly;
  call_sound = kept.call_sound;
  start_sound = kept.start_accepted_sound;
  second_cut_not_6 = kept.second_cut_not_6;
  cut_6_untouched = kept.cut_6_untouched;
  weight_of_call = shares.weight_of_call;
  weight_of_list = shares.weight_of_list;
  rotation_law = jacobi.rotation_law;
  pair_law = jacobi.pair_law;
  sweep_law = jacobi.sweep_law;
  quiet_law = jacobi.quiet_law;
  order_law = order.order_law;
  value_law = svd.value_law;
  svd_law = svd.svd_law;
  transpose_law = svd.transpose_law;
  gram_schmidt_law = qr.gram_schmidt_law;
  pass_law = qr.pass_law;
  qr_law = qr.qr_law;
  element_law = cuts.element_law;
  fill_law = cuts.fill_law;
  bond_law = cuts.bond_law;
  move_law = moves.move_law;
  establish_law = moves.establish_law;
  roots_of_squares = roots.roots_of_squares;
  demand3 = machine.demand3;
  product_clause = products.product_clause;
  run_clause = products.run_clause;
  zero_signs = signs.zero_signs;
  never_six = uncapped.never_six;
  as_at_63 = exponents.as_at_63;
  rank_reasons = reasons.rank_reasons;
  rank_by_reason = reasons.rank_by_reason;
  gate_reasons = reasons.gate_reasons;
  bond_weights = bonds.bond_weights;
  layer_as_gates = layers.layer_as_gates;
  at_most_32 = pairs.at_most_32;
  marked = examples.marked;
}
