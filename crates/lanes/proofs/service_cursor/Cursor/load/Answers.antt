use Rattle.std.proofs.Common.{◌≡◌, ◌∙◌, ◌-◌, ◌++◌, ap, arith, drop, length, rules, sym, take}
use Rattle.std.specs.List.{zip}
use Rattle.std.proofs.lemmas.List.{append-nil}
use Rattle.lanes.specs.ServiceBytes.{loads_at}
use Rattle.lanes.specs.Batches.{batch_frames}
use Rattle.lanes.proofs.LoadLemmas.{IsUnloaded, all_loaded, is_loaded, not_yet}
use Rattle.lanes.proofs.service_cursor.Cursor.load.Goals as goal
use Rattle.lanes.proofs.service_cursor.Cursor.load.Goals.{in_default-via-in-None-1, in_default-via-in-Some+else-batch-frame}

pub slice_bounds-push-count : goal.slice_bounds-push-count
slice_bounds-push-count c =
    let found = c.in-Some.ensures.lookup in
    let loaded = is_loaded c.args.chunks.now c.args.batches.now c.args.self.now c.in-Some.batch.now c.requires.loading found.3.0 found.1 c.if-batch-frame.true in
    loaded.order

pub slice_bounds-push-start : goal.slice_bounds-push-start
slice_bounds-push-start c =
    let found = c.in-Some.ensures.lookup in
    let loaded = is_loaded c.args.chunks.now c.args.batches.now c.args.self.now c.in-Some.batch.now c.requires.loading found.3.0 found.1 c.if-batch-frame.true in
    omega (arith, loaded.order, loaded.within, ap length c.bytes.ensures)

pub slice_bounds-push-end : goal.slice_bounds-push-end
slice_bounds-push-end c =
    let found = c.in-Some.ensures.lookup in
    let loaded = is_loaded c.args.chunks.now c.args.batches.now c.args.self.now c.in-Some.batch.now c.requires.loading found.3.0 found.1 c.if-batch-frame.true in
    omega (arith, loaded.order, loaded.within, ap length c.bytes.ensures)

pub push-requires : goal.push-requires
push-requires c =
    let found = c.in-Some.ensures.lookup in
    let loaded = is_loaded c.args.chunks.now c.args.batches.now c.args.self.now c.in-Some.batch.now c.requires.loading found.3.0 found.1 c.if-batch-frame.true in
    let bytes : take (c.in-Some.batch.now.bytes - c.args.self.now.start) (drop c.args.self.now.start c.bytes.result.now)
    ≡ loads_at (zip c.args.chunks.now (batch_frames c.args.batches.now)) c.args.self.now.frame =
    ap (λ l. take (c.in-Some.batch.now.bytes - c.args.self.now.start) (drop c.args.self.now.start l)) c.bytes.ensures ∙ loaded.bytes in
    omega (arith, ap length bytes, c.requires.room)

pub returns-then-batch-frame-clause-bytes : goal.returns-then-batch-frame-clause-bytes
returns-then-batch-frame-clause-bytes c =
    let found = c.in-Some.ensures.lookup in
    let loaded = is_loaded c.args.chunks.now c.args.batches.now c.args.self.now c.in-Some.batch.now c.requires.loading found.3.0 found.1 c.if-batch-frame.true in
    let bytes : take (c.in-Some.batch.now.bytes - c.args.self.now.start) (drop c.args.self.now.start c.bytes.result.now)
    ≡ loads_at (zip c.args.chunks.now (batch_frames c.args.batches.now)) c.args.self.now.frame =
    ap (λ l. take (c.in-Some.batch.now.bytes - c.args.self.now.start) (drop c.args.self.now.start l)) c.bytes.ensures ∙ loaded.bytes in
    c.push.ensures ∙ ap (λ l. c.args.bytes.now.items ++ l) bytes

pub returns-then-batch-frame-clause-loading : goal.returns-then-batch-frame-clause-loading
returns-then-batch-frame-clause-loading c =
    let found = c.in-Some.ensures.lookup in
    let loaded = is_loaded c.args.chunks.now c.args.batches.now c.args.self.now c.in-Some.batch.now c.requires.loading found.3.0 found.1 c.if-batch-frame.true in
    loaded.behind

-- no batch is in the frame
none_here : (c : goal.In_default) → IsUnloaded c.args.chunks.now c.args.batches.now c.args.self.now
none_here c =
    elim c.in_default.branch [
      | in_default-via-in-None-1 w ↦ all_loaded c.args.chunks.now c.args.batches.now c.args.self.now c.requires.loading (search rules)
      | in_default-via-in-Some+else-batch-frame w ↦
          let found = w.in-Some.ensures.lookup in
          not_yet c.args.chunks.now c.args.batches.now c.args.self.now w.in-Some.batch.now c.requires.loading found.3.0 found.1 w.if-batch-frame.false
    ]

pub returns-in_default-clause-bytes : goal.returns-in_default-clause-bytes
returns-in_default-clause-bytes c =
    let unloaded = none_here c in sym (ap (λ l. c.args.bytes.now.items ++ l) unloaded.none ∙ append-nil c.args.bytes.now.items)

pub returns-in_default-clause-loading : goal.returns-in_default-clause-loading
returns-in_default-clause-loading c = let unloaded = none_here c in unloaded.behind
