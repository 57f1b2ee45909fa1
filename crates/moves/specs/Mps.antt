-- The chain with its store and work slice: what a call makes of it.
use Rattle.std.specs.Prelude.{◌≡◌, refl}
use Rattle.std.proofs.Common.{◌∙◌}
use Rattle.model.specs.Slots.{State, held}
use Rattle.moves.specs.Ready.{Stays}
use Rattle.moves.specs.declared.Mps.{Mps}

-- the chain with its store
abbrev pub state : Mps → State
state m = held m.chain.now m.store.now

-- `new` lends the same places as `old`, of the same sizes
pub record Same (old new : Mps) : Type 0 where
  pub stays : Stays old.chain.now new.chain.now old.store.now new.store.now old.work.now new.work.now
  pub chain_lent : new.chain.ghost_name ≡ old.chain.ghost_name
  pub store_lent : new.store.ghost_name ≡ old.store.ghost_name
  pub work_lent : new.work.ghost_name ≡ old.work.ghost_name

-- and their state is s
pub record Becomes (s : State) (old new : Mps) : Type 0 where
  pub value : state new ≡ s
  pub place : Same old new

pub itself : (m : Mps) → Same m m
itself m = record { stays = record { sound = m.ready.sound; qubits = refl; cap = refl; store_length = refl; work_length = refl }; chain_lent = refl; store_lent = refl; work_lent = refl }

pub and_then : {a b c : Mps} → Same a b → Same b c → Same a c
and_then x y = record {
  stays = record {
    sound = y.stays.sound;
    qubits = y.stays.qubits ∙ x.stays.qubits;
    cap = y.stays.cap ∙ x.stays.cap;
    store_length = y.stays.store_length ∙ x.stays.store_length;
    work_length = y.stays.work_length ∙ x.stays.work_length;
  };
  chain_lent = y.chain_lent ∙ x.chain_lent;
  store_lent = y.store_lent ∙ x.store_lent;
  work_lent = y.work_lent ∙ x.work_lent;
}
