-- The reply to a command, as the answer of a call over a store.
use Rattle.std.specs.Prelude.{◌≡◌, ◌⊎◌, ℕ, List, Bool}
use Rattle.std.specs.declared.result.Result.{Result}
use Rattle.std.specs.declared.result.Result.TheVariants.{Err, Ok}
use Rattle.uf_edge.specs.Host.{HostTold}
use Rattle.uf_edge.specs.Streams as streams
use Rattle.uf_mfs.specs.Standing.{TellsAs, TellsHeld}
use Rattle.uf_store.specs.Contents.{Told}
use Rattle.uf_tree.specs.Standing.{Standing}
use Rattle.uf_command.specs.Natures.{needs_standing, uses_host}
use Rattle.uf_top.specs.Reply.{Reply, World, host_after, reply}
use Rattle.uf_command.specs.Statuses.{no_memory}
use Rattle.uf_command.specs.declared.types.Command.{Command}
use Rattle.uf_command.specs.declared.types.Refusal.{Refusal}
use Rattle.uf_top.specs.Endings.{EndsBy}
use Rattle.uf_top.specs.Naming.{StandsIf, TellsHost}

module _ (X : List ℕ → List ℕ) (N : List ℕ → ℕ) where
  -- there was no memory, and what stood stands
  pub record IsWanting (standing : Standing) (ends : Result (List ℕ) Refusal) (now : Told) : Type 0 where
    pub ends_are : ends ≡ Err no_memory
    pub stands : TellsAs X N now standing

  -- the command ends as the reply says, and what it says stands and is held
  pub record IsReply (given : Reply) (ends : Result (List ℕ) Refusal) (now : Told) : Type 0 where
    pub ends_are : ends ≡ given.ends
    pub stands : TellsAs X N now given.next
    pub held : TellsHeld now given.held

  -- the answer is the reply, or out of memory
  abbrev pub Answers : Standing → Reply → Result (List ℕ) Refusal → Told → Type 0
  Answers standing given ends now = IsWanting standing ends now ⊎ IsReply given ends now

  -- the same once it is printed: there was no memory, and what stood stands, where that is needed
  pub record DoesWant (needs : Bool) (standing : Standing) (done : Result (Unit {0}) Refusal) (now : Told)
      : Type 0 where
    pub ends_are : done ≡ Err no_memory
    pub stands : StandsIf X N needs now standing

  -- the command ended as the reply says and printed its text, and what it says stands and is held
  pub record DoesReply (needs : Bool) (given : Reply) (done : Result (Unit {0}) Refusal) (held held_now : streams.Told)
      (now : Told) : Type 0 where
    pub ends : EndsBy given.ends done held held_now
    pub stands : StandsIf X N needs now given.next
    pub blocks : TellsHeld now given.held

  -- what a reply says stands and is held
  pub record LeavesNext (given : Reply) (now : Told) : Type 0 where
    pub stands : TellsAs X N now given.next
    pub blocks : TellsHeld now given.held

  -- and the host tells what it has then, where it is used
  abbrev pub DoesAnswer : Command → World → Result (Unit {0}) Refusal → streams.Told → streams.Told → Told → HostTold
      → Type 0
  DoesAnswer command w done held held_now now host_now = DoesWant (needs_standing command) w.standing done now
      ⊎ (DoesReply (needs_standing command) (reply X N command w) done held held_now now
      × TellsHost (uses_host command) host_now (host_after (Ok command) w))
