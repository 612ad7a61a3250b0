-- How a status comes: a refusal by its cause, and a text that was written, whole or in part.
use Rattle.std.proofs.Common.{◌≡◌, ℕ, inl, inr, List, Result, Ok, Err, Vec, refl, sym, ◌∙◌, subst}
use Rattle.dt_access.specs.Clash.{Bytes}
use Rattle.dt_outside.specs.Folder.{FolderView}
use Rattle.dt_outside.specs.Sink.{SinkView, Adds, AddsPrefix}
use Rattle.dt_command.specs.declared.status.Status.{Status}
use Rattle.dt_command.specs.declared.status.Status.TheVariants.{Done, BadWords, CannotWrite}
use Rattle.dt_command.specs.Tasks.{Task, Replay, Run, Big, Asks}
use Rattle.dt_command.specs.Headline.{Headline, IsDone}
use Rattle.dt_command.specs.Answers.{Comes}
use Rattle.dt_command.specs.RefusalCode.{EndsBy, IsAskedFor, IsRefusal, IsTextOf, HasNoTask}
use Rattle.dt_command.proofs.OneStatus.{done_due, one_task, refusal_due, words_due}

-- what was written of a report's text, and what follows of it
headline_more : (told : _) (task : Task) (P Q : Bytes → Type 0) → ((text : Bytes) → P text → Q text) → Headline told task P → Headline told task Q
headline_more told task P Q more headline = record {
  cluster = headline.cluster;
  workload = headline.workload;
  loaded = headline.loaded;
  events = headline.events;
  given = headline.given;
  reported = record { legal = headline.reported.legal; agree = headline.reported.agree; report = more _ headline.reported.report; tells = headline.reported.tells };
}

done_more : (told : _) (task : Task) (P Q : Bytes → Type 0) → ((text : Bytes) → P text → Q text) → IsDone told task P → IsDone told task Q
done_more told (Replay word name list) P Q more done = headline_more told (Replay word name list) P Q more done
done_more told (Run word name) P Q more done = headline_more told (Run word name) P Q more done
done_more told (Big size) P Q more done = record {
  calls = done.calls;
  named = done.named;
  lines = more _ done.lines;
  events = done.events;
  legal = done.legal;
  run = done.run;
  summary = done.summary;
}

module _ {F O A : Type 0} (words : List Bytes) (seen : F → FolderView) (files files_after : F) (shown : O → SinkView) (out out_after : O) where
  -- the words ask for nothing
  comes_without : (text : Result (Vec ℕ A) Status) (status : Status) → HasNoTask seen files files_after text words → status ≡ BadWords → out_after ≡ out
      → Comes words seen files files_after shown out out_after status
  comes_without text status has is still = record {
    done = λ also. cc;
    bad_words = λ also. has.none;
    bad_cluster = λ fault also. cc;
    bad_workload = λ line cause also. cc;
    bad_events = λ line cause also. cc;
    cannot_read = λ word also. cc;
    cannot_write = λ also. cc;
    complete = λ due some is_due never dry. inl (is ∙ words_due (seen files).told words has.none due some is_due);
    unread = λ also. has.unread;
    unloaded = λ size asks. has.unread;
    out_same = λ undone unwritten. still;
    files_same = subst (λ f. (seen f).told ≡ (seen files).told) (sym has.unread) refl;
  }

  module _ (task : Task) (asks : Asks words task) where
    -- why the task has no text is passed on
    comes_refused : (text : Result (Vec ℕ A) Status) (why : Status) → text ≡ Err why → IsTextOf seen files files_after text task → out_after ≡ out
        → Comes words seen files files_after shown out out_after why
    comes_refused text why is has still =
        let P : Status → Type 0 = IsRefusal task (seen files) (seen files_after) in
        let refusal : P why = has.refused why is in record {
          done = λ also. absurd (subst P also refusal);
          bad_words = λ also. absurd (subst P also refusal);
          bad_cluster = λ fault also. (task, asks, subst P also refusal);
          bad_workload = λ line cause also. (task, asks, subst P also refusal);
          bad_events = λ line cause also. (task, asks, subst P also refusal);
          cannot_read = λ word also. (task, asks, subst P also refusal);
          cannot_write = λ also. absurd (subst P also refusal);
          complete = λ due some is_due never dry. refusal_due words task asks (seen files) (seen files_after) why due some is_due never refusal;
          unread = λ also. absurd (subst P also refusal);
          unloaded = λ size sized. has.unloaded size (one_task words task (Big size) asks sized);
          out_same = λ undone unwritten. still;
          files_same = has.same_told;
        }

    -- its text was written
    comes_done : (text : Vec ℕ A) → IsTextOf seen files files_after (Ok text) task → Adds (shown out).held (shown out_after).held text.items
        → Comes words seen files files_after shown out out_after Done
    comes_done text has added = record {
      done = λ is. (
        task,
        asks,
        done_more (seen files).told task (λ report. text.items ≡ report) (Adds (shown out).held (shown out_after).held)
            (λ report same. subst (Adds (shown out).held (shown out_after).held) same added) has.done,
      );
      bad_words = λ is. cc;
      bad_cluster = λ fault is. cc;
      bad_workload = λ line cause is. cc;
      bad_events = λ line cause is. cc;
      cannot_read = λ word is. cc;
      cannot_write = λ is. cc;
      complete = λ due some is_due never dry. inl (done_due (seen files).told words task asks has.can due some is_due);
      unread = λ is. cc;
      unloaded = λ size sized. has.unloaded size (one_task words task (Big size) asks sized);
      out_same = λ undone. absurd (undone refl);
      files_same = has.same_told;
    }

    -- it was not written whole
    comes_cut : (text : Vec ℕ A) → IsTextOf seen files files_after (Ok text) task → EndsBy shown out out_after (Ok text) CannotWrite
        → Comes words seen files files_after shown out out_after CannotWrite
    comes_cut text has (added, rose) = record {
      done = λ is. cc;
      bad_words = λ is. cc;
      bad_cluster = λ fault is. cc;
      bad_workload = λ line cause is. cc;
      bad_events = λ line cause is. cc;
      cannot_read = λ word is. cc;
      cannot_write = λ is. (
        rose,
        (
          task,
          asks,
          done_more (seen files).told task (λ report. text.items ≡ report) (AddsPrefix (shown out).held (shown out_after).held)
              (λ report same. subst (AddsPrefix (shown out).held (shown out_after).held) same added) has.done,
        ),
      );
      complete = λ due some is_due never dry. absurd (dry rose);
      unread = λ is. cc;
      unloaded = λ size sized. has.unloaded size (one_task words task (Big size) asks sized);
      out_same = λ undone unwritten. absurd (unwritten refl);
      files_same = has.same_told;
    }

    -- what became of its text
    pub comes_by : (text : Result (Vec ℕ A) Status) (status : Status) → IsTextOf seen files files_after text task → EndsBy shown out out_after text status
        → Comes words seen files files_after shown out out_after status
    comes_by (Ok text) Done has ends = comes_done text has ends
    comes_by (Ok text) CannotWrite has ends = comes_cut text has ends
    comes_by (Ok text) status has ends = absurd ends
    comes_by (Err why) status has (is, still) =
        subst (Comes words seen files files_after shown out out_after) (sym is) (comes_refused (Err why) why refl has still)

  -- what became of what the words ask for
  pub comes_asked : (text : Result (Vec ℕ A) Status) (status : Status) → IsAskedFor seen files files_after text words → EndsBy shown out out_after text status
      → Comes words seen files files_after shown out out_after status
  comes_asked text status (inr (task, asks, has)) ends = comes_by task asks text status has ends
  comes_asked (Err why) status (inl has) (is, still) = let bad : status ≡ BadWords = cc has.refused in comes_without (Err why) status has bad still
  comes_asked (Ok text) status (inl has) ends = cc has.refused
