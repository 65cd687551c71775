-- Each server is one replica of one shard. Assumes nothing.
use Prim.Native.Nat.{ℕ, ◌%◌, ◌<◌}
use mathlib.Core.Path.{◌≡◌}
use native.Mathlib.Omega.{arith}
use Rattle.rules.specs.Cluster.{SHARDS, REPLICAS, SERVERS, server_of, shard_of}

pub shard_of_server : (k r : ℕ) → r < REPLICAS → shard_of (server_of k r) ≡ k
shard_of_server k r l = omega arith

pub server_lt : (k r : ℕ) → k < SHARDS → r < REPLICAS → server_of k r < SERVERS
server_lt k r l m = omega arith

pub shard_lt : (s : ℕ) → s < SERVERS → shard_of s < SHARDS
shard_lt s l = omega arith

pub replica_lt : (s : ℕ) → s % REPLICAS < REPLICAS
replica_lt s = omega arith

pub server_is : (s : ℕ) → s ≡ server_of (shard_of s) (s % REPLICAS)
server_is s = omega arith

-- and of no other
pub server-once : (k r l q : ℕ) → r < REPLICAS → q < REPLICAS → server_of k r ≡ server_of l q → (k ≡ l) × (r ≡ q)
server-once k r l q a b e = (omega arith, omega arith)
