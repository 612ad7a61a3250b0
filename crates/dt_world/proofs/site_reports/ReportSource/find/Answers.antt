use Rattle.std.proofs.Common.{◌≡◌, get_or, Some, None, sym, ap, subst, ◌∙◌}
use Rattle.std.specs.List.{position}
use Rattle.dt_access.specs.Clash.{same_key}
use Rattle.dt_workload.specs.Valid.{session_names}
use Rattle.dt_workload.specs.declared.Session.{Session}
use Rattle.dt_world.specs.ReportSourceInner.{ReportSourceView}
use Rattle.dt_world.proofs.PlacesOfNames.{place_found, place_elsewhere, place_unknown}
use Rattle.dt_world.proofs.site_reports.ReportSource.find.Given.{Over}
use Rattle.dt_world.proofs.site_reports.ReportSource.find.Goals as goal
use Rattle.dt_world.proofs.site_reports.ReportSource.find.Goals.{In_ok-place}

-- the name stands at the place that was found
found : (g : Over) (c : In_ok-place g) → position (same_key c.args.name.now) (session_names c.args.self.now.workload.sessions) ≡ Some c.in_ok-place.place
found g c = subst (λ l. position (same_key c.args.name.now) l ≡ Some c.in_ok-place.place) c.requires.names (sym c.get_index_of.ensures.index ∙ c.in_ok-place.was)

pub returns-in_err-place : goal.returns-in_err-place
returns-in_err-place g c =
    let none : position (same_key c.args.name.now) (session_names c.args.self.now.workload.sessions) ≡ None =
    subst (λ l. position (same_key c.args.name.now) l ≡ None) c.requires.names (sym c.get_index_of.ensures.index ∙ c.in_err-place.was) in
    c.from_residual.ensures ∙ sym (place_unknown c.args.region c.args.name.now c.args.self.now.workload.sessions c.requires.once none)

pub returns-then-as_slice-place : goal.returns-then-as_slice-place
returns-then-as_slice-place g c =
    let at_place = found g (goal.at.returns-then-as_slice-place g c).In_ok-place in
    let d : Session = c.index-as_slice-place.result in
    let listed : c.as_slice.result.now ≡ c.args.self.now.workload.sessions = c.as_slice.ensures ∙ ap (λ (v : ReportSourceView). v.workload.sessions) c.self.view_is in
    sym (place_elsewhere c.args.region c.args.name.now c.args.self.now.workload.sessions c.requires.once c.in_ok-place.place at_place d
    (λ e. c.if-as_slice-place.true (subst (λ l. (get_or l c.in_ok-place.place d).region ≡ c.args.region) (sym listed) e)))

pub returns : goal.returns
returns g c =
    let at_place = found g (goal.at.returns g c).In_ok-place in
    let d : Session = c.index-as_slice-place.result in
    let listed : c.as_slice.result.now ≡ c.args.self.now.workload.sessions = c.as_slice.ensures ∙ ap (λ (v : ReportSourceView). v.workload.sessions) c.self.view_is in
    sym (place_found c.args.region c.args.name.now c.args.self.now.workload.sessions c.requires.once c.in_ok-place.place at_place d
    (subst (λ l. (get_or l c.in_ok-place.place d).region ≡ c.args.region) listed c.if-as_slice-place.false))
